-- Food that a move gives, on the plane and in bytes.
use Rattle.std.proofs.Common.{◌≡◌, ℕ, ◌+◌, ◌*◌, ◌<◌, true, false, ◌&&◌, List, [], length, take, get_or, nat_abs, refl, sym, ap, subst, ◌∙◌}
use Rattle.bs_board.specs.declared.boards.board.Board.{Board}
use Rattle.bs_board.specs.declared.boards.point.Point.{Point}
use Rattle.bs_board.specs.boards.Cell.{is_on_board, origin}
use Rattle.bs_board.proofs.boards.CellsOnBoard.{stands_at}
use Rattle.bs_food.specs.Free.{is_free_cell}
use Rattle.bs_food.specs.Given.{all_given, is_open, with_given_food}
use Rattle.bs_food.specs.Spawning.{with_new_food}
use Rattle.bs_food.proofs.GivenFood.{none_given, one_given_more}
use Rattle.bs_plane.specs.declared.cell.Cell.{Cell}
use Rattle.bs_plane.specs.declared.plane.Plane.{Plane}
use Rattle.bs_plane.specs.Food.{HasFood}
use Rattle.bs_plane.specs.Plane.{IsThere, ShowsBoard, is_free}
use Rattle.bs_plane.specs.inner.Food.{AddsFood, PutsFood}
use Rattle.bs_plane.specs.inner.Plane.{IsPlace}
use Rattle.bs_plane.proofs.NewFood.{free_is_free, on_board}
use Rattle.bs_plane.proofs.Places.{board_cell}

-- food on a cell of the board, by its index
pub puts_given : (cell : Point) (place : ℕ) (plane plane' : Plane) (list list' : List ℕ) → IsPlace plane cell place → PutsFood place plane list plane' list'
    → AddsFood (λ b. with_new_food b cell) plane list plane' list'
puts_given cell place plane plane' list list' at puts b has =
    let width = has.shows.width in
    let height = has.shows.height in
    let on : is_on_board b.width b.height cell ≡ true = rw (← width, ← height) at.on in
    let stands = stands_at b.width b.height cell on in
    let index : nat_abs cell.y * b.width + nat_abs cell.x ≡ place = ap (λ n. nat_abs cell.y * n + nat_abs cell.x) (sym width) ∙ sym at.index in
    subst (λ (p : Point). HasFood (with_new_food b p) plane' list') (board_cell b.width b.height cell on)
    (puts b (nat_abs cell.x) (nat_abs cell.y) has stands.x_fits stands.y_fits index)

stays_taken : (b : Board) (cell : Point) → is_open b cell ≡ false → with_given_food b cell ≡ b
unfolding with_given_food
stays_taken b cell taken = rw taken refl

given_is : (b : Board) (cell : Point) → is_open b cell ≡ true → with_given_food b cell ≡ with_new_food b cell
unfolding with_given_food
given_is b cell free = rw free refl

-- no food on a cell that is not on the board
pub none_off_board : (cell : Point) (plane : Plane) (list : List ℕ) → is_on_board plane.width plane.height cell ≡ false
    → AddsFood (λ b. with_given_food b cell) plane list plane list
none_off_board cell plane list off b has =
    let width = has.shows.width in
    let height = has.shows.height in
    let out : is_on_board b.width b.height cell ≡ false = rw (← width, ← height) off in
    subst (λ (x : Board). HasFood x plane list) (sym (stays_taken b cell (ap (λ t. t && is_free_cell b cell) out))) has

module _ (cell : Point) (plane : Plane) (there : Cell) (at : IsThere plane cell there) where
  free_there : (b : Board) → ShowsBoard b plane → is_open b cell ≡ is_free there
  free_there b shows =
      let width = shows.width in
      let height = shows.height in
      let on : is_on_board b.width b.height cell ≡ true = rw (← width, ← height) at.board in
      ap (λ t. t && is_free_cell b cell) on ∙ sym (free_is_free b cell) ∙ ap is_free (sym (at.is (on_board b) shows.cells))

  -- none on a cell that is not free
  pub none_on_taken : (list : List ℕ) → is_free there ≡ false → AddsFood (λ b. with_given_food b cell) plane list plane list
  none_on_taken list taken b has =
      subst (λ (x : Board). HasFood x plane list) (sym (stays_taken b cell (free_there b has.shows ∙ taken))) has

  -- food on a free cell
  pub one_on_free : (list list' : List ℕ) (plane' : Plane) → is_free there ≡ true → AddsFood (λ b. with_new_food b cell) plane list plane' list'
      → AddsFood (λ b. with_given_food b cell) plane list plane' list'
  one_on_free list list' plane' free adds b has =
      subst (λ (x : Board). HasFood x plane' list') (sym (given_is b cell (free_there b has.shows ∙ free))) (adds b has)

-- ---- several cells

pub no_cell_given : (plane : Plane) (list : List ℕ) → AddsFood (all_given []) plane list plane list
no_cell_given plane list b has = subst (λ (x : Board). HasFood x plane list) (none_given b) has

pub given_more : (cells : List Point) (i : ℕ) (plane0 plane plane' : Plane) (list0 list list' : List ℕ) → i < length cells
    → AddsFood (all_given (take i cells)) plane0 list0 plane list → AddsFood (λ b. with_given_food b (get_or cells i origin)) plane list plane' list'
    → AddsFood (all_given (take (i + 1) cells)) plane0 list0 plane' list'
given_more cells i plane0 plane plane' list0 list list' within so_far step b has =
    let now = all_given (take i cells) b in
    subst (λ (x : Board). HasFood x plane' list') (one_given_more b now (with_given_food now (get_or cells i origin)) cells i within refl refl) (step now (so_far b has))
