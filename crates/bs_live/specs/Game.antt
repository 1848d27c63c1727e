-- A game as its kept records, in a pool of its own.
use Rattle.std.specs.Prelude.{ℕ}
use Rattle.bs_game.specs.Game.{Game}

-- the kept boards, the quota of their records, and the number of blocks of the pool
pub record KeptBoards : Type 0 where
  pub game : Game
  pub quota : ℕ
  pub blocks : ℕ
