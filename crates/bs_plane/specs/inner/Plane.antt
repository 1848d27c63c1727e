-- Places on a plane, and changes of its contents.
use Rattle.std.specs.Prelude.{◌≡◌, ℕ, ◌+◌, ◌<◌, true, cond, List, length, count_by}
use Rattle.bs_board.specs.declared.boards.point.Point.{Point}
use Rattle.bs_board.specs.boards.Cell.{cell_index, is_on_board, is_same_cell}
use Rattle.bs_plane.specs.declared.cell.Cell.{Cell}
use Rattle.bs_plane.specs.declared.plane.Plane.{Plane}

-- the index of a cell of the board
pub record IsPlace (plane : Plane) (cell : Point) (place : ℕ) : Type 0 where
  pub on : is_on_board plane.width plane.height cell ≡ true
  pub index : place ≡ cell_index plane.width cell
  pub within : place < length plane.cells.items

abbrev pub with_hazard : Point → (Point → Cell) → Point → Cell
with_hazard cell on p = cond (is_same_cell p cell) (record (on p) { hazard = true }) (on p)

-- the parts of a body more on their cells
abbrev pub with_body : List Point → (Point → Cell) → Point → Cell
with_body body on p = record (on p) { parts = (on p).parts + count_by (is_same_cell p) body }
