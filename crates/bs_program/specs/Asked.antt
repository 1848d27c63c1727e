-- What is asked for, as a value without references.
use Rattle.std.specs.Prelude.{ℕ, List}
use Rattle.bs_program.specs.declared.request.Request.{Request}
use Rattle.bs_program.specs.declared.request.Request.TheVariants.{Serve, Alone, Live}

pub data Asked : Type 0 where
  -- the file, the blocks and the workers
  serve : List ℕ → ℕ → ℕ → Asked
  -- the file, the game, which stay of it, and the blocks
  alone : List ℕ → List ℕ → ℕ → ℕ → Asked
  -- the blocks
  live : ℕ → Asked

-- the request as a value
abbrev pub asked_for : Request → Asked
asked_for (Serve request) = serve request.file.now request.blocks request.workers
asked_for (Alone request) = alone request.file.now request.game.now request.stay request.blocks
asked_for (Live blocks) = live blocks
