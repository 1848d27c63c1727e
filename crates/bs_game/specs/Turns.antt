-- The place of a turn's board among the kept ones.
use Rattle.std.specs.Prelude.{◌≡◌, ℕ, ◌+◌, ◌-◌, Bool, ◌&&◌, List, length, Option, Some, None, slice_get, nat_le, if◌then◌else◌}
use Rattle.bs_board.specs.declared.boards.board.Board.{Board}
use Rattle.bs_game.specs.Game.{Game, IsGame, board_of_turn, last_board}

-- turn `at` is one of the `kept` newest turns, the last of which is `last`
abbrev pub is_kept : ℕ → ℕ → ℕ → Bool
is_kept kept last at = nat_le (last + 1) (at + kept) && nat_le at last

abbrev pub place_of_turn : ℕ → ℕ → ℕ → Option ℕ
place_of_turn kept last at = if is_kept kept last at then Some (at + kept - (last + 1)) else None

abbrev pub at_place : {X : Type 0} → Option ℕ → List X → Option X
at_place None xs = None
at_place (Some place) xs = slice_get xs place

-- the board of a turn, by its place
abbrev pub PlaceLaw : Type 0
PlaceLaw =
    (game : Game) (last : Board) (at : ℕ) → IsGame game → last_board game ≡ Some last
    → board_of_turn at game ≡ at_place (place_of_turn (length game) last.turn at) game
