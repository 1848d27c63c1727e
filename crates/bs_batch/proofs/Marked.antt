-- Planes that are written cell by cell.
use Rattle.std.proofs.Common.{◌≡◌, ℕ, ℤ, suc, ◌+◌, ◌-◌, ◌*◌, ◌/◌, ◌%◌, ◌<◌, ◌≤◌, min, Bool, true, false, ◌||◌, cond, List, [], ◌∷◌, length, take, drop, set, get_or, pos, nat_abs, ◌+ℤ◌, refl, subst, sym, ap, ◌∙◌, arith, inl, inr, drop-cons, length-drop, length-set}
use Rattle.std.specs.Prelude.{int_le, int_lt}
use Rattle.std.specs.List.{list_any}
use Rattle.std.proofs.lemmas.Bool.{cases_Bool}
use Rattle.std.proofs.lemmas.Int.{ints}
use Rattle.std.proofs.lemmas.List.{drop_all, get_or-map, get_or-set_other, get_or-set_same, length-map, take_all, take_more}
use Rattle.std.proofs.lemmas.List.Elements.{All-get_or}
use Rattle.std.proofs.lemmas.Nat.{mul-le, same_from_place}
use Rattle.bs_board.specs.declared.boards.point.Point.{Point}
use Rattle.bs_board.specs.boards.Cell.{cell_index, is_on_board, is_same_cell, origin}
use Rattle.bs_board.specs.boards.Legal.{is_near}
use Rattle.bs_board.proofs.boards.CellsOnBoard.{stands_at}
use Rattle.bs_rules.proofs.CollisionTest.{same_cell}
use Rattle.bs_rules.proofs.Movable.{four_parts, near_from_on_board}
use Rattle.bs_batch.specs.declared.layout.Settings.{Settings}
use Rattle.bs_batch.specs.Numbers.{number_of, numbers_of}
use Rattle.bs_batch.specs.Showing.{food_mark, turns_left}
use Rattle.bs_batch.specs.inner.Loading.{AreNear}
use Rattle.bs_batch.specs.inner.Showing.{HasCells, MarksBody, MarksCell, MarksFood}
use Rattle.bs_batch.proofs.FoodGone.{any_push}
use Rattle.bs_batch.proofs.Numbers.{near_raised, one_number}

-- a coordinate on the board, raised by one
one_up : (z : ℤ) → int_le (pos 0) z ≡ true → nat_abs (z +ℤ pos 1) ≡ nat_abs z + 1
one_up z low = grind (arith, ints)

-- column and row of a cell on the board
pub record Placed (width height : ℕ) (p : Point) : Type 0 where
  pub column : nat_abs (p.x +ℤ pos 1) ≡ nat_abs p.x + 1
  pub row : nat_abs (p.y +ℤ pos 1) ≡ nat_abs p.y + 1
  pub x_fits : nat_abs p.x < width
  pub y_fits : nat_abs p.y < height

pub placed : (width height : ℕ) (p : Point) → is_on_board width height p ≡ true → Placed width height p
placed width height p on =
    let parts = four_parts (int_le (pos 0) p.x) (int_lt p.x (pos width)) (int_le (pos 0) p.y) (int_lt p.y (pos height)) on in
    let at = stands_at width height p on in
    record { column = one_up p.x parts.0; row = one_up p.y parts.2; x_fits = at.x_fits; y_fits = at.y_fits }

module _ (s : Settings) (height : ℕ) (byte : Point → ℕ) (p : Point) (narrow : s.width ≤ 25) (low : height ≤ 25) (near : is_near s.width height p ≡ true)
    (cell value column row : ℕ) (is : cell ≡ number_of p) (column_is : column ≡ cell % 32) (row_is : row ≡ cell / 32) (plane : List ℕ)
    (has : HasCells s.width height byte plane) where
  column_at : column ≡ nat_abs (p.x +ℤ pos 1)
  column_at = let r = near_raised s.width height p near in let c = r.column in omega arith

  row_at : row ≡ nat_abs (p.y +ℤ pos 1)
  row_at = let r = near_raised s.width height p near in let c = r.column in omega arith

  pub marked : 1 ≤ column → column ≤ s.width → 1 ≤ row → HasCells s.width height (λ q. cond (is_same_cell q p) value (byte q)) (set plane ((row - 1) * s.width + (column - 1)) value)
  marked some fits up = record {
    area = length-set plane ((row - 1) * s.width + (column - 1)) value ∙ has.area;
    cells = λ q on. elim (cases_Bool (is_same_cell q p)) [
      | inl same ↦
          let e : q ≡ p = (same_cell q p).0 same in
          let at = placed s.width height q on in
          let a = at.column in
          let b = at.row in
          let c = column_at in
          let d = row_at in
          let cx : nat_abs (q.x +ℤ pos 1) ≡ nat_abs (p.x +ℤ pos 1) = ap (λ (r : Point). nat_abs (r.x +ℤ pos 1)) e in
          let cy : nat_abs (q.y +ℤ pos 1) ≡ nat_abs (p.y +ℤ pos 1) = ap (λ (r : Point). nat_abs (r.y +ℤ pos 1)) e in
          let here : (row - 1) * s.width + (column - 1) ≡ cell_index s.width q =
          let k : row - 1 ≡ nat_abs q.y = omega arith in let l : column - 1 ≡ nat_abs q.x = omega arith in rw (k, l) refl in
          let inside : cell_index s.width q < length plane =
          let full = has.area in let f = at.y_fits in let above : nat_abs q.y + 1 ≤ height = omega arith in let rows = mul-le (nat_abs q.y + 1) s.width height s.width above (omega arith) in
          let turned : height * s.width ≡ s.width * height = grind arith in let split : (nat_abs q.y + 1) * s.width ≡ nat_abs q.y * s.width + s.width = grind arith in let x = at.x_fits in omega arith in
          ap (λ n. get_or (set plane n value) (cell_index s.width q) 0) here ∙ get_or-set_same plane (cell_index s.width q) value 0 inside
          ∙ ap (λ b. cond b value (byte q)) (sym same)
      | inr other ↦
          let apart : cell_index s.width q ≡ (row - 1) * s.width + (column - 1) → ⊥ = λ e.
          let at = placed s.width height q on in
          let a = at.column in
          let b = at.row in
          let c = column_at in
          let d = row_at in
          let both = same_from_place (nat_abs q.y) (nat_abs q.x) (row - 1) (column - 1) s.width at.x_fits (omega arith) e in
          let y = both.0 in
          let x = both.1 in
          let numbers : number_of q ≡ number_of p = omega arith in
          let one = one_number s.width height q p narrow (near_from_on_board s.width height q on) near numbers in
          let same = (same_cell q p).1 one in
          cc in
          get_or-set_other plane ((row - 1) * s.width + (column - 1)) (cell_index s.width q) value 0 apart ∙ has.cells q on ∙ ap (λ b. cond b value (byte q)) (sym other)
    ];
  }

  pub marked_at : (width : ℕ) (new : List ℕ) → width ≡ s.width → new ≡ set plane ((row - 1) * width + (column - 1)) value → 1 ≤ column → column ≤ s.width → 1 ≤ row
      → HasCells s.width height (λ q. cond (is_same_cell q p) value (byte q)) new
  marked_at width new same written some fits up =
      subst (λ (l : List ℕ). HasCells s.width height (λ q. cond (is_same_cell q p) value (byte q)) l)
      (sym (written ∙ ap (λ n. set plane ((row - 1) * n + (column - 1)) value) same)) (marked some fits up)

-- the food so far is marked
abbrev pub FoodMarkedSoFar : Settings → List ℕ → ℕ → List ℕ → List ℕ → Type 0
FoodMarkedSoFar s numbers i old now =
    (height : ℕ) (cells : List Point) → AreNear s.width height cells → numbers ≡ numbers_of cells → HasCells s.width height (λ _. 0) old
    → HasCells s.width height (food_mark (take i cells)) now

pub no_food_marked : (s : Settings) (numbers plane : List ℕ) → FoodMarkedSoFar s numbers 0 plane plane
no_food_marked s numbers plane height cells near are has = has

same_cells : (width height : ℕ) (f g : Point → ℕ) (plane : List ℕ) → ((p : Point) → f p ≡ g p) → HasCells width height f plane → HasCells width height g plane
same_cells width height f g plane e has = record { area = has.area; cells = λ p on. has.cells p on ∙ e p }

one_more_mark : (any same : Bool) → cond {A = ℕ} same 1 (cond any 1 0) ≡ cond (any || same) 1 0
one_more_mark true true = refl
one_more_mark true false = refl
one_more_mark false true = refl
one_more_mark false false = refl

part_number : (numbers : List ℕ) (cells : List Point) (i : ℕ) → numbers ≡ numbers_of cells → i < length numbers → (i < length cells) × (get_or numbers i 0 ≡ number_of (get_or cells i origin))
part_number numbers cells i are within =
    let long : length numbers ≡ length cells = ap length are ∙ length-map cells number_of in
    (omega arith, ap (λ l. get_or l i 0) are ∙ get_or-map number_of cells i origin 0 (omega arith))

pub one_food_marked : (s : Settings) (numbers : List ℕ) (i : ℕ) (old now new : List ℕ) → i < length numbers → MarksCell s (get_or numbers i 0) 1 now new
    → FoodMarkedSoFar s numbers i old now → FoodMarkedSoFar s numbers (i + 1) old new
one_food_marked s numbers i old now new within marks so_far height cells near are has =
    let n = part_number numbers cells i are within in
    let p = get_or cells i origin in
    let here = All-get_or (λ q. is_near s.width height q ≡ true) cells i origin n.0 near.near in
    let next : (q : Point) → list_any (is_same_cell q) (take (i + 1) cells) ≡ (list_any (is_same_cell q) (take i cells) || is_same_cell q p) =
    λ q. ap (list_any (is_same_cell q)) (take_more cells i origin n.0) ∙ any_push (is_same_cell q) (take i cells) p in
    same_cells s.width height (λ q. cond (is_same_cell q p) 1 (food_mark (take i cells) q)) (food_mark (take (i + 1) cells)) new
    (λ q. one_more_mark (list_any (is_same_cell q) (take i cells)) (is_same_cell q p) ∙ ap (λ b. cond {A = ℕ} b 1 0) (sym (next q)))
    (marks height (food_mark (take i cells)) p near.narrow near.low here n.1 (so_far height cells near are has))

pub all_food_marked : (s : Settings) (numbers : List ℕ) (i : ℕ) (old now : List ℕ) → length numbers ≤ i → FoodMarkedSoFar s numbers i old now → MarksFood s numbers old now
all_food_marked s numbers i old now end so_far height cells near are has =
    let long : length numbers ≡ length cells = ap length are ∙ length-map cells number_of in
    same_cells s.width height (food_mark (take i cells)) (food_mark cells) now (λ q. ap (λ l. food_mark l q) (take_all i cells (omega arith))) (so_far height cells near are has)

-- the last i parts are marked
abbrev pub BodyMarkedSoFar : Settings → List ℕ → ℕ → List ℕ → List ℕ → Type 0
BodyMarkedSoFar s numbers i old now =
    (height : ℕ) (cells : List Point) → AreNear s.width height cells → numbers ≡ numbers_of cells → HasCells s.width height (λ _. 0) old
    → HasCells s.width height (λ q. min (turns_left (drop (length cells - i) cells) q) 255) now

pub no_part_marked : (s : Settings) (numbers plane : List ℕ) → BodyMarkedSoFar s numbers 0 plane plane
no_part_marked s numbers plane height cells near are has =
    let none : drop (length cells - 0) cells ≡ [] = drop_all (length cells - 0) cells (omega arith) in
    same_cells s.width height (λ _. 0) (λ q. min (turns_left (drop (length cells - 0) cells) q) 255) plane (λ q. ap (λ l. min (turns_left l q) 255) (sym none)) has

one_more_part : (same : Bool) (n t : ℕ) → cond same (min n 255) (min t 255) ≡ min (cond same n t) 255
one_more_part true n t = refl
one_more_part false n t = refl

pub one_part_marked : (s : Settings) (numbers : List ℕ) (i value : ℕ) (old now new : List ℕ) → i < length numbers → value ≡ min (i + 1) 255
    → MarksCell s (get_or numbers (length numbers - 1 - i) 0) value now new → BodyMarkedSoFar s numbers i old now → BodyMarkedSoFar s numbers (i + 1) old new
one_part_marked s numbers i value old now new within is marks so_far height cells near are has =
    let long : length numbers ≡ length cells = ap length are ∙ length-map cells number_of in
    let k : ℕ = length numbers - 1 - i in
    let n = part_number numbers cells k are (omega arith) in
    let p = get_or cells k origin in
    let here = All-get_or (λ q. is_near s.width height q ≡ true) cells k origin n.0 near.near in
    let later : suc k ≡ length cells - i = omega arith in
    let there : k ≡ length cells - (i + 1) = omega arith in
    let split : drop (length cells - (i + 1)) cells ≡ p ∷ drop (length cells - i) cells =
    ap (λ j. drop j cells) (sym there) ∙ drop-cons cells k origin n.0 ∙ ap (λ j. p ∷ drop j cells) later in
    let rest : length (drop (length cells - i) cells) ≡ i = let l = length-drop (length cells - i) cells in omega arith in
    same_cells s.width height (λ q. cond (is_same_cell q p) value (min (turns_left (drop (length cells - i) cells) q) 255))
    (λ q. min (turns_left (drop (length cells - (i + 1)) cells) q) 255) new
    (λ q. ap (λ v. cond (is_same_cell q p) v (min (turns_left (drop (length cells - i) cells) q) 255)) (is ∙ ap (λ m. min (m + 1) 255) (sym rest))
    ∙ one_more_part (is_same_cell q p) (length (drop (length cells - i) cells) + 1) (turns_left (drop (length cells - i) cells) q)
    ∙ ap (λ l. min (turns_left l q) 255) (sym split))
    (marks height (λ q. min (turns_left (drop (length cells - i) cells) q) 255) p near.narrow near.low here n.1 (so_far height cells near are has))

pub all_parts_marked : (s : Settings) (numbers : List ℕ) (i : ℕ) (old now : List ℕ) → length numbers ≤ i → BodyMarkedSoFar s numbers i old now → MarksBody s numbers old now
all_parts_marked s numbers i old now end so_far height cells near are has =
    let long : length numbers ≡ length cells = ap length are ∙ length-map cells number_of in
    let none : length cells - i ≡ 0 = omega arith in
    same_cells s.width height (λ q. min (turns_left (drop (length cells - i) cells) q) 255) (λ q. min (turns_left cells q) 255) now
    (λ q. ap (λ j. min (turns_left (drop j cells) q) 255) none) (so_far height cells near are has)
