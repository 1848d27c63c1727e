-- What a stepper follows.
use Rattle.std.specs.Prelude.{◌≡◌, ℕ, List, true, false}
use Rattle.bs_board.specs.declared.boards.board.Board.{Board}
use Rattle.bs_board.specs.boards.Legal.{IsLegal}
use Rattle.bs_board.specs.commands.Orders.{Orders}
use Rattle.bs_board.specs.records.Record.{record_of}
use Rattle.bs_rules.specs.Turn.{turn_of}
use Rattle.bs_plane.specs.declared.stepper.Stepper.{Stepper}
use Rattle.bs_plane.specs.Plane.{ShowsBoard}

-- of no board
abbrev pub IsLost : Stepper → Type 0
IsLost stepper = stepper.is_current ≡ false

-- of no board, or of the legal board with that record
abbrev pub Follows : Stepper → List ℕ → Type 0
Follows stepper bytes = stepper.is_current ≡ true → (b : Board) → IsLegal b → bytes ≡ record_of b → ShowsBoard b stepper.plane

-- the record after the turn
abbrev pub IsNextRecord : List ℕ → Orders → List ℕ → Type 0
IsNextRecord bytes orders next = (b : Board) → IsLegal b → bytes ≡ record_of b → next ≡ record_of (turn_of b orders)
