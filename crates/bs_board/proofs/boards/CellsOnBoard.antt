-- The cells of a board and their indices, row after row. A board has no more distinct cells than
-- indices.
use Rattle.std.proofs.Common.{◌≡◌, ℕ, zero, suc, ◌+◌, ◌*◌, ◌<◌, ◌≤◌, true, false, not, List, [], ◌∷◌, length, map, ℤ, pos, negsuc, nat_abs, refl, sym, ap, ◌∙◌, arith, inl, inr}
use Rattle.std.specs.Prelude.{int_le, int_lt, nat_lt, nat_eq}
use Rattle.std.specs.Ordering.{int_eq}
use Rattle.std.specs.List.{filter, list_any, list_all}
use Rattle.std.proofs.lemmas.Bool.{ltb-true, ltb-false, lt-ltb, cases_Bool, not-true, eqb-true, eqb-false}
use Rattle.std.proofs.lemmas.Bool.Decides.{Decides-int_eq}
use Rattle.std.proofs.lemmas.List.{length-map}
use Rattle.std.proofs.lemmas.Nat.{mul-add-lt, same_from_place}
use Rattle.bs_board.specs.declared.boards.point.Point.{Point}
use Rattle.bs_board.specs.boards.Cell.{is_same_cell, is_on_board, are_distinct_cells, cell_index}
use Rattle.bs_board.specs.Distinct.{are_distinct}
use Rattle.bs_board.proofs.Chains.{and_both, or_both}
use Rattle.bs_board.proofs.Distinct.{filter_all, distinct_of_filter, filter_passes}

-- a number from 0 up to a side
within_side : (z : ℤ) (side : ℕ) → int_le (pos 0) z ≡ true → int_lt z (pos side) ≡ true → (z ≡ pos (nat_abs z)) × (nat_abs z < side)
within_side (pos n) side low high = (refl, ltb-true n side high)
within_side (negsuc n) side low high = let wrong : false ≡ true = low in cc

-- the index of a cell of the board
pub record StandsAt (width height : ℕ) (p : Point) : Type 0 where
  pub x_is : p.x ≡ pos (nat_abs p.x)
  pub y_is : p.y ≡ pos (nat_abs p.y)
  pub x_fits : nat_abs p.x < width
  pub y_fits : nat_abs p.y < height

pub stands_at : (width height : ℕ) (p : Point) → is_on_board width height p ≡ true → StandsAt width height p
stands_at width height p on =
    let last = and_both _ _ on in
    let low = and_both _ _ last.0 in
    let first = and_both _ _ low.0 in
    let x = within_side p.x width first.0 first.1 in
    let y = within_side p.y height low.1 last.1 in
    record { x_is = x.0; y_is = y.0; x_fits = x.1; y_fits = y.1 }

pub same_int : (x y : ℤ) → x ≡ y → int_eq x y ≡ true
same_int x y = (Decides-int_eq x y).1

pub int_is : (x y : ℤ) → int_eq x y ≡ true → x ≡ y
int_is x y = (Decides-int_eq x y).0

-- cells with the same index are equal
same_place : (width height : ℕ) (p q : Point) → StandsAt width height p → StandsAt width height q
    → cell_index width p ≡ cell_index width q → is_same_cell p q ≡ true
same_place width height p q at_p at_q same =
    let both = same_from_place (nat_abs p.y) (nat_abs p.x) (nat_abs q.y) (nat_abs q.x) width at_p.x_fits at_q.x_fits same in
    let x : int_eq p.x q.x ≡ true = same_int _ _ (at_p.x_is ∙ ap pos both.1 ∙ sym at_q.x_is) in
    let y : int_eq p.y q.y ≡ true = same_int _ _ (at_p.y_is ∙ ap pos both.0 ∙ sym at_q.y_is) in
    rw (x, y) refl

all_below : (n : ℕ) (xs : List ℕ) → list_any (nat_eq n) xs ≡ false → list_all (λ k. nat_lt k (suc n)) xs ≡ true
    → list_all (λ k. nat_lt k n) xs ≡ true
all_below n [] none all = refl
all_below n (x ∷ xs) none all =
    let apart : (nat_eq n x ≡ false) × (list_any (nat_eq n) xs ≡ false) = or_both _ _ none in
    let parts : (nat_lt x (suc n) ≡ true) × (list_all (λ k. nat_lt k (suc n)) xs ≡ true) = and_both _ _ all in
    let below : x < suc n = ltb-true x (suc n) parts.0 in
    let other : n ≡ x → ⊥ = eqb-false n x apart.0 in
    let here : nat_lt x n ≡ true = lt-ltb x n (omega arith) in
    rw (here) (all_below n xs apart.1 parts.1)

-- among distinct numbers below n + 1, at most one is n
less_one : (n : ℕ) (xs : List ℕ) → are_distinct nat_eq xs ≡ true → list_all (λ k. nat_lt k (suc n)) xs ≡ true
    → length xs ≤ suc (length (filter (λ k. nat_lt k n) xs))
less_one n [] distinct all = omega arith
less_one n (x ∷ xs) distinct all =
    let apart : (not (list_any (nat_eq x) xs) ≡ true) × (are_distinct nat_eq xs ≡ true) = and_both _ _ distinct in
    let parts : (nat_lt x (suc n) ≡ true) × (list_all (λ k. nat_lt k (suc n)) xs ≡ true) = and_both _ _ all in
    elim (cases_Bool (nat_lt x n)) [
      | inl below ↦ rw below (let rest = less_one n xs apart.1 parts.1 in omega arith)
      | inr top ↦
          let high : x < suc n = ltb-true x (suc n) parts.0 in
          let is : x ≡ n = omega (arith, ltb-false x n top) in
          let none : list_any (nat_eq n) xs ≡ false = rw (← is) (not-true _ apart.0) in
          let rest = filter_all (λ k. nat_lt k n) xs (all_below n xs none parts.1) in
          rw (top, rest) (omega arith)
    ]

-- there are at most n distinct numbers below n
distinct_below : (n : ℕ) (xs : List ℕ) → are_distinct nat_eq xs ≡ true → list_all (λ k. nat_lt k n) xs ≡ true → length xs ≤ n
distinct_below zero [] distinct all = omega arith
distinct_below zero (x ∷ xs) distinct all =
    let parts : (nat_lt x 0 ≡ true) × (list_all (λ k. nat_lt k 0) xs ≡ true) = and_both _ _ all in
    let wrong : x < 0 = ltb-true x 0 parts.0 in
    absurd (omega arith)
distinct_below (suc n) xs distinct all =
    let rest = filter (λ k. nat_lt k n) xs in
    let fewer : length rest ≤ n = distinct_below n rest (distinct_of_filter nat_eq _ xs distinct) (filter_passes _ xs) in
    let one = less_one n xs distinct all in
    omega arith

places_below : (width height : ℕ) (cells : List Point) → list_all (is_on_board width height) cells ≡ true
    → list_all (λ k. nat_lt k (width * height)) (map (cell_index width) cells) ≡ true
places_below width height [] all = refl
places_below width height (p ∷ cells) all =
    let parts : (is_on_board width height p ≡ true) × (list_all (is_on_board width height) cells ≡ true) = and_both _ _ all in
    let at = stands_at width height p parts.0 in
    let here : nat_lt (nat_abs p.y * width + nat_abs p.x) (width * height) ≡ true =
    lt-ltb _ _ (mul-add-lt (nat_abs p.y) width (nat_abs p.x) height at.y_fits at.x_fits) in
    rw here (places_below width height cells parts.1)

other_places : (width height : ℕ) (p : Point) (cells : List Point) → StandsAt width height p → list_all (is_on_board width height) cells ≡ true
    → list_any (is_same_cell p) cells ≡ false → list_any (nat_eq (cell_index width p)) (map (cell_index width) cells) ≡ false
other_places width height p [] at all none = refl
other_places width height p (q ∷ cells) at all none =
    let parts : (is_on_board width height q ≡ true) × (list_all (is_on_board width height) cells ≡ true) = and_both _ _ all in
    let apart : (is_same_cell p q ≡ false) × (list_any (is_same_cell p) cells ≡ false) = or_both _ _ none in
    let rest = other_places width height p cells at parts.1 apart.1 in
    elim (cases_Bool (nat_eq (cell_index width p) (cell_index width q))) [
      | inl same ↦
          let one = same_place width height p q at (stands_at width height q parts.0) (eqb-true _ _ same) in
          let wrong : false ≡ true = sym apart.0 ∙ one in
          cc
      | inr differ ↦ rw differ rest
    ]

places_distinct : (width height : ℕ) (cells : List Point) → list_all (is_on_board width height) cells ≡ true → are_distinct_cells cells ≡ true
    → are_distinct nat_eq (map (cell_index width) cells) ≡ true
places_distinct width height [] all distinct = refl
places_distinct width height (p ∷ cells) all distinct =
    let parts : (is_on_board width height p ≡ true) × (list_all (is_on_board width height) cells ≡ true) = and_both _ _ all in
    let apart : (not (list_any (is_same_cell p) cells) ≡ true) × (are_distinct_cells cells ≡ true) = and_both _ _ distinct in
    let here = other_places width height p cells (stands_at width height p parts.0) parts.1 (not-true _ apart.0) in
    rw here (places_distinct width height cells parts.1 apart.1)

-- a board has at most as many distinct cells as indices
pub cells_on_board : (width height : ℕ) (cells : List Point) → list_all (is_on_board width height) cells ≡ true → are_distinct_cells cells ≡ true
    → length cells ≤ width * height
cells_on_board width height cells all distinct =
    let count = length-map cells (cell_index width) in
    let places = distinct_below (width * height) (map (cell_index width) cells) (places_distinct width height cells all distinct)
    (places_below width height cells all) in
    omega arith
