-- A game: nothing, or the boards of its turns.
use Rattle.std.specs.Prelude.{◌≡◌, ℕ, ◌+◌, ◌-◌, List, [], ◌∷◌, length, drop, Option, slice_get, sum_by, nat_eq, All}
use Rattle.std.specs.List.{find}
use Rattle.bs_block.specs.Rounding.{rounded}
use Rattle.bs_board.specs.declared.boards.board.Board.{Board}
use Rattle.bs_board.specs.boards.Legal.{IsLegal}
use Rattle.bs_board.specs.records.Record.{record_of}

-- the empty list if no game runs; the newest board comes last
abbrev pub Game : Type 0
Game = List Board

abbrev pub last_board : Game → Option Board
last_board game = slice_get game (length game - 1)

-- the list of the last element alone; empty if the list is empty
abbrev pub newest : {X : Type 0} → List X → List X
newest xs = drop (length xs - 1) xs

-- the kept board of that turn
unfoldable pub board_of_turn : ℕ → Game → Option Board
board_of_turn turn game = find (λ board. nat_eq board.turn turn) game

-- the charge of a kept board, in bytes
abbrev pub board_charge : Board → ℕ
board_charge board = rounded (length (record_of board))

unfoldable pub game_charge : Game → ℕ
game_charge game = sum_by board_charge game

-- each board's turn is one more than that of the board before it
abbrev pub AreConsecutive : List Board → Type 0
AreConsecutive [] = Unit {0}
AreConsecutive (_ ∷ []) = Unit {0}
AreConsecutive (first ∷ second ∷ rest) = (second.turn ≡ first.turn + 1) × AreConsecutive (second ∷ rest)

pub record IsGame (game : Game) : Type 0 where
  pub legal : All IsLegal game
  pub turns : AreConsecutive game
