-- Bytes that are known to be a record.
use Rattle.std.specs.Prelude.{◌≡◌, ℕ, List}
use Rattle.bs_board.specs.declared.boards.board.Board.{Board}
use Rattle.bs_board.specs.boards.Legal.{IsLegal}
use Rattle.bs_board.specs.records.Record.{record_of}

-- A record that is known to be a legal board's.
pub record IsLegalRecord (bytes : List ℕ) : Type 0 where
  pub board : Board
  pub legal : IsLegal board
  pub is : bytes ≡ record_of board
