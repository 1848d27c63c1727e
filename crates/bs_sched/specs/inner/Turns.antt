-- The place of a turn's record among the kept ones, and the parts of the next turn.
use Rattle.std.specs.Prelude.{◌≡◌, ℕ, ◌<◌, Bool, true, false, ◌||◌, List, length, nat_le, Option, None, MatchOption, slice_get, option_map}
use Rattle.bs_board.specs.boards.Over.{is_over}
use Rattle.bs_board.specs.declared.boards.board.Board.{Board}
use Rattle.bs_board.specs.declared.limits.TheConstants.{LAST_TURN}
use Rattle.bs_fiber.specs.Work.{parts_of}
use Rattle.bs_board.specs.records.Record.{record_of}
use Rattle.bs_game.specs.Game.{Game, board_of_turn}

abbrev pub FindsTurn : Game → List (List ℕ) → ℕ → Option ℕ → Type 0
FindsTurn game records at result =
    MatchOption result
    (board_of_turn at game ≡ None)
    (λ place. (place < length records) × (slice_get records place ≡ option_map record_of (board_of_turn at game)))

-- a move is refused there, whatever it orders
abbrev pub has_no_turn : Board → Bool
has_no_turn b = is_over b || nat_le LAST_TURN b.turn

-- the number of the parts of a move there, 0 if it is refused
pub record AreMoveParts (b : Board) (n : ℕ) : Type 0 where
  pub none : has_no_turn b ≡ true → n ≡ 0
  pub is : has_no_turn b ≡ false → n ≡ parts_of (length b.snakes)
  pub some : has_no_turn b ≡ false → 0 < n
