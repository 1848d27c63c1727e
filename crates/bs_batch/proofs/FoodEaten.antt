-- The premises under which food that is eaten is gone, as far as the cells are seen.
use Rattle.std.proofs.Common.{◌≡◌, ℕ, ◌<◌, ◌≤◌, true, List, length}
use Rattle.std.specs.Prelude.{slice_index_or}
use Rattle.bs_board.specs.declared.boards.board.Board.{Board}
use Rattle.bs_board.specs.declared.boards.point.Point.{Point}
use Rattle.bs_board.specs.boards.Cell.{is_on_board}
use Rattle.bs_batch.specs.declared.layout.Head.{Head}
use Rattle.bs_batch.specs.Shown.{HasRoom, ShowsFood, ShowsSeats}
use Rattle.bs_batch.proofs.FoodGone.{FoodSoFar}

abbrev pub EatenSoFar : ℕ → ℕ → Head → List ℕ → List ℕ → List ℕ → List ℕ → List ℕ → Type 0
EatenSoFar i left head bodies food0 plane0 food plane =
    (b : Board) → ShowsSeats head plane0 bodies b → ShowsFood head.foods food0 b.food → HasRoom 0 b → length food0 ≤ 1024
    → ((cell : ℕ) (d : Point) → cell < length b.food → is_on_board b.width b.height (slice_index_or b.food cell d) ≡ true)
    → FoodSoFar b i left food0 food plane
