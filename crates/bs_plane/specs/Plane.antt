-- What the plane of a board shows.
use Rattle.std.specs.Prelude.{◌≡◌, ℕ, ◌+◌, ◌*◌, ◌<◌, Bool, true, false, not, ◌&&◌, ◌||◌, ◌==◌, cond, List, length, count_by, sum_by, slice_index_or}
use Rattle.std.specs.List.{list_any}
use Rattle.bs_board.specs.declared.boards.point.Point.{Point}
use Rattle.bs_board.specs.declared.boards.board.Board.{Board}
use Rattle.bs_board.specs.declared.boards.snake.Snake.{Snake}
use Rattle.bs_board.specs.boards.Cell.{cell_index, is_on_board, is_same_cell}
use Rattle.bs_board.specs.boards.Over.{is_living}
use Rattle.bs_board.specs.records.Layout.{cells_of}
use Rattle.bs_food.specs.Free.{point_at}
use Rattle.bs_plane.specs.declared.cell.Cell.{Cell}
use Rattle.bs_plane.specs.declared.plane.Plane.{Plane}

-- where nothing stands
abbrev pub nothing : Cell
nothing = record { parts = 0; food = false; hazard = false }

-- food may appear there
abbrev pub is_free : Cell → Bool
is_free c = c.parts == 0 && not c.food

-- the parts of a living snake on a cell
abbrev pub parts_on : Point → Snake → ℕ
parts_on cell s = cond (is_living s) (count_by (is_same_cell cell) s.body) 0

abbrev pub occupants : List Snake → Point → ℕ
occupants snakes cell = sum_by (parts_on cell) snakes

-- what stands on a cell
abbrev pub contents : List Point → List Point → List Snake → Point → Cell
contents food hazards snakes cell =
    record { parts = occupants snakes cell; food = list_any (is_same_cell cell) food; hazard = list_any (is_same_cell cell) hazards }

-- the cells of a board, row after row, have these contents
pub record HasCells (width height : ℕ) (on : Point → Cell) (cells : List Cell) : Type 0 where
  pub room : length cells ≡ width * height
  pub each : (x y : ℕ) → x < width → y < height → slice_index_or cells (cell_index width (point_at x y)) nothing ≡ on (point_at x y)

abbrev pub Shows : (Point → Cell) → Plane → Type 0
Shows on plane = HasCells plane.width plane.height on plane.cells.items

-- the plane of a board
pub record ShowsBoard (b : Board) (plane : Plane) : Type 0 where
  pub width : plane.width ≡ b.width
  pub height : plane.height ≡ b.height
  pub cells : Shows (contents b.food (cells_of b.hazards) b.snakes) plane

-- the contents that a plane has on a cell of the board
pub record IsThere (plane : Plane) (cell : Point) (there : Cell) : Type 0 where
  pub board : is_on_board plane.width plane.height cell ≡ true
  pub is : (on : Point → Cell) → Shows on plane → there ≡ on cell

-- a change of the contents; the sides stay
pub record Changes (change : (Point → Cell) → Point → Cell) (old new : Plane) : Type 0 where
  pub width : new.width ≡ old.width
  pub height : new.height ≡ old.height
  pub cells : (on : Point → Cell) → Shows on old → Shows (change on) new

-- one part more on a cell
abbrev pub with_part : Point → (Point → Cell) → Point → Cell
with_part cell on p = cond (is_same_cell p cell) (record (on p) { parts = (on p).parts + 1 }) (on p)

-- one part less on a cell; the sides stay
pub record TakesPart (cell : Point) (old new : Plane) : Type 0 where
  pub width : new.width ≡ old.width
  pub height : new.height ≡ old.height
  pub cells : (on : Point → Cell) → Shows (with_part cell on) old → Shows on new

-- with food on a cell, or without
abbrev pub with_food : Point → Bool → (Point → Cell) → Point → Cell
with_food cell food on p = cond (is_same_cell p cell) (record (on p) { food = food }) (on p)

-- the plane of a board of these sides on which nothing stands
pub record IsBlank (wide high : ℕ) (plane : Plane) : Type 0 where
  pub width : plane.width ≡ wide
  pub height : plane.height ≡ high
  pub cells : Shows (λ _. nothing) plane

-- with food on each of the cells
abbrev pub with_foods : List Point → (Point → Cell) → Point → Cell
with_foods cells on p = record (on p) { food = (on p).food || list_any (is_same_cell p) cells }

-- with a hazard on each of the cells
abbrev pub with_hazards : List Point → (Point → Cell) → Point → Cell
with_hazards cells on p = record (on p) { hazard = (on p).hazard || list_any (is_same_cell p) cells }

-- the parts of the living snakes more on their cells
abbrev pub with_snakes : List Snake → (Point → Cell) → Point → Cell
with_snakes snakes on p = record (on p) { parts = (on p).parts + occupants snakes p }
