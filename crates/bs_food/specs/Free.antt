-- The cells on which food may appear.
use Rattle.std.specs.Prelude.{ℕ, Bool, not, ◌&&◌, List, map, filter, flat_map, pos}
use Rattle.std.specs.List.{list_any, range_with_len}
use Rattle.bs_board.specs.declared.boards.point.Point.{Point}
use Rattle.bs_board.specs.declared.boards.board.Board.{Board}
use Rattle.bs_board.specs.declared.boards.snake.Snake.{Snake}
use Rattle.bs_board.specs.boards.Cell.{is_same_cell}
use Rattle.bs_board.specs.boards.Over.{is_living}

abbrev pub point_at : ℕ → ℕ → Point
point_at x y = record { x = pos x; y = pos y }

abbrev pub row_of_cells : ℕ → ℕ → List Point
row_of_cells width y = map (λ x. point_at x y) (range_with_len 0 width)

-- ordered by y, then by x
abbrev pub all_cells : ℕ → ℕ → List Point
all_cells width height = flat_map (row_of_cells width) (range_with_len 0 height)

abbrev pub stands_on : Point → Snake → Bool
stands_on cell s = is_living s && list_any (is_same_cell cell) s.body

-- no food and no part of a living snake
abbrev pub is_free_cell : Board → Point → Bool
is_free_cell b cell = not (list_any (is_same_cell cell) b.food) && not (list_any (stands_on cell) b.snakes)

unfoldable pub free_cells : Board → List Point
free_cells b = filter (is_free_cell b) (all_cells b.width b.height)
