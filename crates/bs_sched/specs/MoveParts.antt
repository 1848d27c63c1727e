-- The parts of one game's move, one value each, with the keys and blocks.
use Rattle.std.specs.Prelude.{ℕ, List, Option}
use Rattle.bs_counter.specs.Keys.{Key, TallyId}
use Rattle.bs_sched.specs.Frames.{Written}

-- no worker has taken it; that worker has it out, with the block of that number; it is completed,
-- with what it wrote and the block; it is completed, and the Join has the block
pub data PartView : Type 0 where
  Ready : PartView
  Out : ℕ → ℕ → PartView
  Done : Written → ℕ → PartView
  Joining : ℕ → PartView

pub record PartsView : Type 0 where
  pub tag : ℕ
  -- the tally and the keys, as in the frames
  pub tally : Option TallyId
  pub keys : List Key
  pub list : List PartView
