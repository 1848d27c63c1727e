-- The food after a turn, on the plane and in bytes.
use Rattle.std.specs.Prelude.{◌≡◌, ℕ, not, ◌&&◌, List, ◌++◌, filter, flat_map, All}
use Rattle.std.specs.List.{list_any}
use Rattle.bs_board.specs.declared.boards.board.Board.{Board}
use Rattle.bs_board.specs.declared.boards.point.Point.{Point}
use Rattle.bs_board.specs.boards.Cell.{is_same_cell}
use Rattle.bs_board.specs.records.Record.{cell_bytes}
use Rattle.bs_board.specs.records.Writing.{IsByteCell}
use Rattle.bs_plane.specs.declared.cell.Cell.{Cell}
use Rattle.bs_plane.specs.declared.plane.Plane.{Plane}
use Rattle.bs_plane.specs.Plane.{Shows, ShowsBoard}

-- the bytes of the food in a record
abbrev pub food_bytes : List Point → List ℕ
food_bytes = flat_map (cell_bytes 0)

-- without the food on these cells
abbrev pub without_foods : List Point → (Point → Cell) → Point → Cell
without_foods cells on p = record (on p) { food = (on p).food && not (list_any (is_same_cell p) cells) }

-- the food that a plane has is appended, in the order of the list
abbrev pub KeepsFood : Plane → List ℕ → List ℕ → List ℕ → Type 0
KeepsFood plane food old new =
    (on : Point → Cell) (cells : List Point) → Shows on plane → food ≡ food_bytes cells → All (IsByteCell 0) cells
    → new ≡ (old ++ food_bytes (filter (λ p. (on p).food) cells))

-- the plane and the bytes of a board's food
pub record HasFood (b : Board) (plane : Plane) (bytes : List ℕ) : Type 0 where
  pub shows : ShowsBoard b plane
  pub written : bytes ≡ food_bytes b.food

-- the numbers by which food is added
pub record SpawnsBy (least chance : ℕ) (b : Board) : Type 0 where
  pub min_food : b.min_food ≡ least
  pub percent : b.chance ≡ chance
