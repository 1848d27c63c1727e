-- How food is kept and put, on the plane and in bytes.
use Rattle.std.specs.Prelude.{◌≡◌, ℕ, ◌+◌, ◌*◌, ◌<◌, true, cond, List, [], ◌∷◌, ◌++◌, length, take, count_by, fold, slice_index_or}
use Rattle.bs_board.specs.declared.boards.board.Board.{Board}
use Rattle.bs_board.specs.declared.boards.point.Point.{Point}
use Rattle.bs_food.specs.Free.{point_at}
use Rattle.bs_food.specs.Spawning.{with_new_food, with_one_food}
use Rattle.bs_plane.specs.declared.cell.Cell.{Cell}
use Rattle.bs_plane.specs.declared.plane.Plane.{Plane}
use Rattle.bs_plane.specs.Plane.{Shows, is_free, nothing}
use Rattle.bs_plane.specs.Food.{HasFood}

-- the cell is appended if the plane has food there
abbrev pub KeepsCell : Plane → ℕ → ℕ → List ℕ → List ℕ → Type 0
KeepsCell plane x y old new =
    (on : Point → Cell) → Shows on plane → new ≡ (old ++ cond (on (point_at x y)).food (x ∷ y ∷ []) [])

-- a free cell, and the number of free cells before it
pub record IsFreeOf (cells : List Cell) (number place : ℕ) : Type 0 where
  pub within : place < length cells
  pub free : is_free (slice_index_or cells place nothing) ≡ true
  pub before : count_by is_free (take place cells) ≡ number

abbrev pub FindsFree : List Cell → ℕ → ℕ → Type 0
FindsFree cells number place = number < count_by is_free cells → IsFreeOf cells number place

-- food on the cell with that index, if there is none
abbrev pub PutsFood : ℕ → Plane → List ℕ → Plane → List ℕ → Type 0
PutsFood place old bytes new bytes' =
    (b : Board) (x y : ℕ) → HasFood b old bytes → x < b.width → y < b.height → y * b.width + x ≡ place
    → HasFood (with_new_food b (point_at x y)) new bytes'

-- food is added to the board, its plane and its bytes
abbrev pub AddsFood : (Board → Board) → Plane → List ℕ → Plane → List ℕ → Type 0
AddsFood change old bytes new bytes' = (b : Board) → HasFood b old bytes → HasFood (change b) new bytes'

-- one food for each word
abbrev pub with_food_by : List ℕ → Board → Board
with_food_by words b = fold (λ c word. with_one_food word c) b words
