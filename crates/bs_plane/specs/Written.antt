-- The pieces of a new record.
use Rattle.std.specs.Prelude.{◌≡◌, ℕ, ◌+◌, List, length, flat_map}
use Rattle.bs_board.specs.declared.boards.board.Board.{Board}
use Rattle.bs_board.specs.declared.records.layout.BoardBytes.{BoardBytes}
use Rattle.bs_board.specs.records.Layout.{IsBoardBytes}
use Rattle.bs_board.specs.records.Record.{record_of, snake_record}
use Rattle.bs_plane.specs.Food.{food_bytes}

-- the record of the board with that food and those snakes, one turn later
abbrev pub WritesNext : BoardBytes → List ℕ → List ℕ → List ℕ → Type 0
WritesNext parts food snakes record_bytes =
    (b now : Board) → IsBoardBytes b parts → now ≡ record b { food = now.food; snakes = now.snakes; turn = b.turn + 1 } → length now.snakes ≡ length b.snakes
    → food ≡ food_bytes now.food → snakes ≡ flat_map snake_record now.snakes → record_bytes ≡ record_of now
