-- Marks of a board's cells by their index.
use Rattle.std.specs.Prelude.{◌≡◌, ℕ, ◌<◌, Bool, false, ◌||◌, List, slice_index_or}
use Rattle.std.specs.List.{list_any}
use Rattle.bs_board.specs.declared.boards.point.Point.{Point}
use Rattle.bs_board.specs.declared.boards.snake.Snake.{Snake}
use Rattle.bs_board.specs.boards.Cell.{is_same_cell, cell_index}
use Rattle.bs_food.specs.Free.{point_at, stands_on}

abbrev pub is_marked : ℕ → List Bool → Point → Bool
is_marked width marks p = slice_index_or marks (cell_index width p) false

-- the new marks are the old ones, and a mark for each cell that passes the test
abbrev pub AddMarks : ℕ → ℕ → (Point → Bool) → List Bool → List Bool → Type 0
AddMarks width height test old new =
    (x y : ℕ) → x < width → y < height → is_marked width new (point_at x y) ≡ (is_marked width old (point_at x y) || test (point_at x y))

pub record MarksCells (width height : ℕ) (cells : List Point) (old new : List Bool) : Type 0 where
  pub adds : AddMarks width height (λ p. list_any (is_same_cell p) cells) old new

pub record MarksSnakes (width height : ℕ) (snakes : List Snake) (old new : List Bool) : Type 0 where
  pub adds : AddMarks width height (λ p. list_any (stands_on p) snakes) old new
