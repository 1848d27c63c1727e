-- What private contracts add to specs/Marks.
use Rattle.std.specs.Prelude.{ℕ, Bool, not, if◌then◌else◌, List, [], ◌∷◌, filter, flat_map}
use Rattle.std.specs.List.{range_with_len}
use Rattle.bs_board.specs.declared.boards.point.Point.{Point}
use Rattle.bs_board.specs.boards.Cell.{is_same_cell}
use Rattle.bs_food.specs.Free.{point_at, row_of_cells}
use Rattle.bs_food.specs.Marks.{is_marked, AddMarks}

pub record MarksCell (width height : ℕ) (cell : Point) (old new : List Bool) : Type 0 where
  pub adds : AddMarks width height (λ p. is_same_cell p cell) old new

-- the cell itself, if it has no mark
abbrev pub unmarked_cell : ℕ → ℕ → ℕ → List Bool → List Point
unmarked_cell width x y marks = if not (is_marked width marks (point_at x y)) then point_at x y ∷ [] else []

-- the cells of a row that have no mark
abbrev pub unmarked_row : ℕ → ℕ → List Bool → List Point
unmarked_row width y marks = filter (λ p. not (is_marked width marks p)) (row_of_cells width y)

abbrev pub unmarked : ℕ → ℕ → List Bool → List Point
unmarked width height marks = flat_map (λ y. unmarked_row width y marks) (range_with_len 0 height)
