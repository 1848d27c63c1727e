-- What private contracts add to specs/records/Writing.
use Rattle.std.specs.Prelude.{◌≡◌, ℕ, ◌+◌, ◌<◌, List, ◌++◌, length, take, All, MatchOption, Option}
use Rattle.bs_board.specs.declared.boards.board.Board.{Board}
use Rattle.bs_board.specs.declared.boards.hazards.Hazards.{Hazards}
use Rattle.bs_board.specs.records.Writing.{IsByteCell, IsWritable}

-- writes the bytes from index `at` on; `next` is the index after them; what is before `at` and the
-- length of the slice are unchanged
pub record Puts (at : ℕ) (bytes old new : List ℕ) (next : ℕ) : Type 0 where
  pub place : next ≡ at + length bytes
  pub front : take next new ≡ take at old ++ bytes
  pub room : length new ≡ length old

-- hazards whose numbers fit their bytes
pub record AreWritableCells (h : Hazards) : Type 0 where
  pub few : length h.cells < 65536
  pub cells : All (IsByteCell 0) h.cells

abbrev pub AreWritableHazards : Option Hazards → Type 0
AreWritableHazards hazards = MatchOption hazards (Unit {0}) AreWritableCells

-- a board with such snakes, whose own numbers fit too
pub record IsWritableBoard (b : Board) : Type 0 where
  pub few : length b.snakes < 256
  pub food : length b.food < 65536
  pub cells : All (IsByteCell 0) b.food
  pub hazards : AreWritableHazards b.hazards
  pub snakes : All IsWritable b.snakes
