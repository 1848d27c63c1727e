-- The record of the newest board.
use Rattle.std.proofs.Common.{◌≡◌, ℕ, List, Option, Some, None, refl}
use Rattle.std.specs.Prelude.{option_map}
use Rattle.bs_board.specs.declared.boards.board.Board.{Board}
use Rattle.bs_board.specs.records.Record.{record_of}

pub record Newest (last : Option Board) (bytes : List ℕ) : Type 0 where
  pub board : Board
  pub there : Some board ≡ last
  pub is : bytes ≡ record_of board

pub newest : (last : Option Board) (bytes : List ℕ) → Some bytes ≡ option_map record_of last → Newest last bytes
newest None bytes is = let wrong : Some bytes ≡ None = is in absurd cc
newest (Some board) bytes is = record { board = board; there = refl; is = cc }

pub no_newest : (last : Option Board) → None ≡ option_map record_of last → None ≡ last
no_newest None is = refl
no_newest (Some board) is = let wrong : None ≡ Some (record_of board) = is in absurd cc
