-- The plane of a board, made from a blank one.
use Rattle.std.proofs.Common.{◌≡◌, ℕ, ◌+◌, ◌<◌, Bool, true, false, ◌||◌, cond, List, [], ◌∷◌, ◌++◌, length, take, get_or, count_by, refl, sym, ap, ◌∙◌, arith, inl, inr}
use Rattle.std.specs.List.{list_any}
use Rattle.std.proofs.lemmas.Bool.{cases_Bool}
use Rattle.std.proofs.lemmas.List.{take_more}
use Rattle.std.proofs.lemmas.List.Sums.{sum_by-append}
use Rattle.std.proofs.Math.Bool.{or-false}
use Rattle.bs_board.specs.declared.boards.point.Point.{Point}
use Rattle.bs_board.specs.declared.boards.snake.Snake.{Snake}
use Rattle.bs_board.specs.boards.Cell.{is_same_cell, origin}
use Rattle.bs_board.specs.boards.Over.{is_living}
use Rattle.bs_plane.specs.declared.cell.Cell.{Cell}
use Rattle.bs_plane.specs.declared.plane.Plane.{Plane}
use Rattle.bs_board.specs.declared.boards.board.Board.{Board}
use Rattle.bs_board.specs.records.Layout.{cells_of}
use Rattle.bs_plane.specs.Plane.{Changes, IsBlank, ShowsBoard, contents, nothing, occupants, parts_on, with_food, with_foods, with_hazards, with_part, with_snakes}
use Rattle.bs_plane.specs.inner.Plane.{with_body, with_hazard}
use Rattle.bs_plane.proofs.NewFood.{any_more}
use Rattle.bs_plane.proofs.Places.{same_cells}

-- one change after another
pub then_changes : (f g h : (Point → Cell) → Point → Cell) (a b c : Plane) → ((on : Point → Cell) (p : Point) → g (f on) p ≡ h on p)
    → Changes f a b → Changes g b c → Changes h a c
then_changes f g h a b c same first second = record {
  width = second.width ∙ first.width;
  height = second.height ∙ first.height;
  cells = λ on shows. same_cells c.width c.height _ _ c.cells.items (same on) (second.cells (f on) (first.cells on shows));
}

-- no change
pub no_change : (h : (Point → Cell) → Point → Cell) (a : Plane) → ((on : Point → Cell) (p : Point) → on p ≡ h on p) → Changes h a a
no_change h a same = record {
  width = refl;
  height = refl;
  cells = λ on shows. same_cells a.width a.height _ _ a.cells.items (same on) shows;
}

or_all : (a b : Bool) → true ≡ (a || (b || true))
or_all true b = refl
or_all false true = refl
or_all false false = refl

or_none : (a b : Bool) → (a || b) ≡ (a || (b || false))
or_none a b = ap (λ t. a || t) (sym (or-false b))

food_after : (cells : List Point) (cell : Point) (on : Point → Cell) (p : Point) → with_food cell true (with_foods cells on) p ≡ with_foods (cells ++ cell ∷ []) on p
food_after cells cell on p =
    let more = any_more (is_same_cell p) cells cell in
    elim (cases_Bool (is_same_cell p cell)) [
      | inl same ↦ rw (more, same) (ap (λ t. record (on p) { food = t }) (or_all (on p).food (list_any (is_same_cell p) cells)))
      | inr other ↦ rw (more, other) (ap (λ t. record (on p) { food = t }) (or_none (on p).food (list_any (is_same_cell p) cells)))
    ]

hazard_after : (cells : List Point) (cell : Point) (on : Point → Cell) (p : Point) → with_hazard cell (with_hazards cells on) p ≡ with_hazards (cells ++ cell ∷ []) on p
hazard_after cells cell on p =
    let more = any_more (is_same_cell p) cells cell in
    elim (cases_Bool (is_same_cell p cell)) [
      | inl same ↦ rw (more, same) (ap (λ t. record (on p) { hazard = t }) (or_all (on p).hazard (list_any (is_same_cell p) cells)))
      | inr other ↦ rw (more, other) (ap (λ t. record (on p) { hazard = t }) (or_none (on p).hazard (list_any (is_same_cell p) cells)))
    ]

part_after : (body : List Point) (cell : Point) (on : Point → Cell) (p : Point) → with_part cell (with_body body on) p ≡ with_body (body ++ cell ∷ []) on p
part_after body cell on p =
    let both : count_by (is_same_cell p) (body ++ cell ∷ []) ≡ count_by (is_same_cell p) body + count_by (is_same_cell p) (cell ∷ []) =
    sum_by-append (λ q. cond {A = ℕ} (is_same_cell p q) 1 0) body (cell ∷ []) in
    let was = (on p).parts in
    let count = count_by (is_same_cell p) body in
    elim (cases_Bool (is_same_cell p cell)) [
      | inl same ↦
          let one : count_by (is_same_cell p) (cell ∷ []) ≡ 1 = rw same refl in
          let all : was + count + 1 ≡ was + count_by (is_same_cell p) (body ++ cell ∷ []) = omega arith in
          rw same (ap (λ n. record (on p) { parts = n }) all)
      | inr other ↦
          let none : count_by (is_same_cell p) (cell ∷ []) ≡ 0 = rw other refl in
          let all : was + count ≡ was + count_by (is_same_cell p) (body ++ cell ∷ []) = omega arith in
          rw other (ap (λ n. record (on p) { parts = n }) all)
    ]

snake_after : (snakes : List Snake) (s : Snake) (on : Point → Cell) (p : Point) → is_living s ≡ true
    → with_body s.body (with_snakes snakes on) p ≡ with_snakes (snakes ++ s ∷ []) on p
snake_after snakes s on p alive =
    let both : occupants (snakes ++ s ∷ []) p ≡ occupants snakes p + occupants (s ∷ []) p = sum_by-append (parts_on p) snakes (s ∷ []) in
    let one : occupants (s ∷ []) p ≡ 0 + count_by (is_same_cell p) s.body = rw alive refl in
    let all : (on p).parts + occupants snakes p + count_by (is_same_cell p) s.body ≡ (on p).parts + occupants (snakes ++ s ∷ []) p = omega arith in
    ap (λ n. record (on p) { parts = n }) all

dead_after : (snakes : List Snake) (s : Snake) (on : Point → Cell) (p : Point) → is_living s ≡ false → with_snakes snakes on p ≡ with_snakes (snakes ++ s ∷ []) on p
dead_after snakes s on p dead =
    let both : occupants (snakes ++ s ∷ []) p ≡ occupants snakes p + occupants (s ∷ []) p = sum_by-append (parts_on p) snakes (s ∷ []) in
    let none : occupants (s ∷ []) p ≡ 0 + 0 = rw dead refl in
    let all : (on p).parts + occupants snakes p ≡ (on p).parts + occupants (snakes ++ s ∷ []) p = omega arith in
    ap (λ n. record (on p) { parts = n }) all

-- ---- nothing yet

pub no_hazards : (plane : Plane) → Changes (with_hazards []) plane plane
no_hazards plane = no_change (with_hazards []) plane (λ on p. ap (λ t. record (on p) { hazard = t }) (sym (or-false (on p).hazard)))

pub no_parts : (plane : Plane) → Changes (with_body []) plane plane
no_parts plane = no_change (with_body []) plane (λ on p. let same : (on p).parts ≡ (on p).parts + 0 = omega arith in ap (λ n. record (on p) { parts = n }) same)

-- ---- one more

module _ (cells : List Point) (i : ℕ) (within : i < length cells) (a b c : Plane) where
  abbrev cell : Point
  cell = get_or cells i origin

  pub foods_more : Changes (with_foods (take i cells)) a b → Changes (with_food cell true) b c → Changes (with_foods (take (i + 1) cells)) a c
  foods_more so_far more =
      rw (take_more cells i origin within) (then_changes (with_foods (take i cells)) (with_food cell true) (with_foods (take i cells ++ cell ∷ [])) a b c (food_after (take i cells) cell) so_far more)

  pub hazards_more : Changes (with_hazards (take i cells)) a b → Changes (with_hazard cell) b c → Changes (with_hazards (take (i + 1) cells)) a c
  hazards_more so_far more =
      rw (take_more cells i origin within) (then_changes (with_hazards (take i cells)) (with_hazard cell) (with_hazards (take i cells ++ cell ∷ [])) a b c (hazard_after (take i cells) cell) so_far more)

  pub parts_more : Changes (with_body (take i cells)) a b → Changes (with_part cell) b c → Changes (with_body (take (i + 1) cells)) a c
  parts_more so_far more =
      rw (take_more cells i origin within) (then_changes (with_body (take i cells)) (with_part cell) (with_body (take i cells ++ cell ∷ [])) a b c (part_after (take i cells) cell) so_far more)

module _ (snakes : List Snake) (i : ℕ) (within : i < length snakes) (s d : Snake) (is : s ≡ get_or snakes i d) (a b c : Plane) where
  next : take (i + 1) snakes ≡ take i snakes ++ s ∷ []
  next = take_more snakes i d within ∙ ap (λ t. take i snakes ++ t ∷ []) (sym is)

  pub snakes_more : is_living s ≡ true → Changes (with_snakes (take i snakes)) a b → Changes (with_body s.body) b c → Changes (with_snakes (take (i + 1) snakes)) a c
  snakes_more alive so_far more =
      rw next
      (then_changes (with_snakes (take i snakes)) (with_body s.body) (with_snakes (take i snakes ++ s ∷ [])) a b c (λ on p. snake_after (take i snakes) s on p alive) so_far more)

  pub snakes_stay : is_living s ≡ false → Changes (with_snakes (take i snakes)) a b → c ≡ b → Changes (with_snakes (take (i + 1) snakes)) a c
  snakes_stay dead so_far same =
      rw next
      (then_changes (with_snakes (take i snakes)) (λ on. on) (with_snakes (take i snakes ++ s ∷ [])) a b c (λ on p. dead_after (take i snakes) s on p dead) so_far
      (rw same (no_change (λ on. on) b (λ on p. refl))))

-- the plane that shows the board
pub board_shown : (b : Board) (p0 p1 p2 p3 : Plane) → IsBlank b.width b.height p0 → Changes (with_foods b.food) p0 p1 → Changes (with_hazards (cells_of b.hazards)) p1 p2
    → Changes (with_snakes b.snakes) p2 p3 → ShowsBoard b p3
board_shown b p0 p1 p2 p3 blank first second third =
    let on1 = with_foods b.food (λ _. nothing) in
    let on2 = with_hazards (cells_of b.hazards) on1 in
    record {
      width = third.width ∙ second.width ∙ first.width ∙ blank.width;
      height = third.height ∙ second.height ∙ first.height ∙ blank.height;
      cells = same_cells p3.width p3.height _ _ p3.cells.items
          (λ p. let all : 0 + occupants b.snakes p ≡ occupants b.snakes p = omega arith in ap (λ n. record (contents b.food (cells_of b.hazards) b.snakes p) { parts = n }) all)
          (third.cells on2 (second.cells on1 (first.cells (λ _. nothing) blank.cells)));
    }
