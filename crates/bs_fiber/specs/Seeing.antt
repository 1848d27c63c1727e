-- What a job reads of its game.
use Rattle.std.specs.Prelude.{◌≡◌, ℕ, List, Option, Some, None}
use Rattle.bs_board.specs.declared.boards.board.Board.{Board}
use Rattle.bs_board.specs.boards.Legal.{IsLegal}
use Rattle.bs_board.specs.records.Record.{record_of}
use Rattle.bs_game.specs.declared.view.View.{View}
use Rattle.bs_fiber.specs.declared.input.Input.{Input}

-- the legal board whose record these bytes are; none if there are no bytes
abbrev pub IsBoardOf : Option (List ℕ) → Option Board → Type 0
IsBoardOf None None = Unit {0}
IsBoardOf None (Some board) = ⊥
IsBoardOf (Some bytes) None = ⊥
IsBoardOf (Some bytes) (Some board) = IsLegal board × (bytes ≡ record_of board)

pub record IsSeen (view : View) (input : Input) : Type 0 where
  pub quota : view.quota ≡ input.quota
  pub charge : view.charge ≡ input.charge
  pub kept : view.kept ≡ input.kept
  pub last : IsBoardOf input.last view.last
  pub asked : IsBoardOf input.asked view.asked
