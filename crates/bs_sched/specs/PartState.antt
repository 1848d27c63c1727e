-- The state of one part of a move, as contracts see it.
use Rattle.std.specs.Prelude.{ℕ}

-- no worker has taken it; that worker has it out; it is completed
pub data PartState : Type 0 where
  Ready : PartState
  Out : ℕ → PartState
  Done : PartState
