-- Rows of cells, with one more column or one more row.
use Rattle.std.proofs.Common.{◌≡◌, ℕ, zero, suc, ◌+◌, Bool, not, List, [], ◌∷◌, ◌++◌, refl, ap, subst, ◌∙◌, arith, append_assoc, add-zero, append-nil}
use Rattle.std.specs.Prelude.{if◌then◌else◌}
use Rattle.std.specs.List.{filter, flat_map, range_with_len}
use Rattle.std.proofs.lemmas.List.FromFn.{filter_of_map_range_with_len_more}
use Rattle.std.proofs.lemmas.Grind.{flat_map-append}
use Rattle.bs_board.specs.declared.boards.point.Point.{Point}
use Rattle.bs_food.specs.Free.{point_at, row_of_cells}
use Rattle.bs_food.specs.Marks.{is_marked}
use Rattle.bs_food.specs.inner.Marks.{unmarked, unmarked_cell, unmarked_row}

-- one more column
pub row_more : (p : Point → Bool) (x y : ℕ)
    → filter p (row_of_cells (suc x) y) ≡ filter p (row_of_cells x y) ++ (if p (point_at x y) then point_at x y ∷ [] else [])
row_more p x y =
    let next : x + 1 ≡ suc x = omega arith in
    let P : ℕ → Type 0 = λ n. filter p (row_of_cells n y) ≡ filter p (row_of_cells x y) ++ (if p (point_at x y) then point_at x y ∷ [] else []) in
    subst P next (filter_of_map_range_with_len_more p (λ k. point_at k y) 0 x x (omega arith))

-- the same column, appended to the cells of earlier rows
pub unmarked_row_more : (width x y : ℕ) (marks : List Bool) (front back : List Point)
    → back ≡ front ++ filter (λ p. not (is_marked width marks p)) (row_of_cells x y)
    → back ++ unmarked_cell width x y marks ≡ front ++ filter (λ p. not (is_marked width marks p)) (row_of_cells (x + 1) y)
unmarked_row_more width x y marks front back so_far =
    let next : x + 1 ≡ suc x = omega arith in
    let done : List Point = filter (λ p. not (is_marked width marks p)) (row_of_cells x y) in
    rw (so_far, next, row_more (λ p. not (is_marked width marks p)) x y) (append_assoc front done (unmarked_cell width x y marks))

range_more : (a n : ℕ) → range_with_len a (suc n) ≡ range_with_len a n ++ (a + n) ∷ []
range_more a zero = rw add-zero refl
range_more a (suc n) =
    let place : (a + 1) + n ≡ a + suc n = omega arith in
    ap (λ t. a ∷ t) (range_more (a + 1) n ∙ ap (λ k. range_with_len (a + 1) n ++ k ∷ []) place)

pub flat_range_more : (f : ℕ → List Point) (n : ℕ) → flat_map f (range_with_len 0 (suc n)) ≡ flat_map f (range_with_len 0 n) ++ f n
flat_range_more f n =
    let place : 0 + n ≡ n = omega arith in
    let one : f (0 + n) ++ [] ≡ f n = ap (λ k. f k ++ []) place ∙ append-nil (f n) in
    ap (flat_map f) (range_more 0 n) ∙ flat_map-append f (range_with_len 0 n) ((0 + n) ∷ [])
    ∙ ap (λ t. flat_map f (range_with_len 0 n) ++ t) one

-- one more row
pub unmarked_more : (width y : ℕ) (marks : List Bool) → unmarked width (y + 1) marks ≡ unmarked width y marks ++ unmarked_row width y marks
unmarked_more width y marks = let e : y + 1 ≡ suc y = omega arith in rw e (flat_range_more (λ k. unmarked_row width k marks) y)
