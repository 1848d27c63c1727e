-- Counts of parts over all cells of a board.
use Rattle.std.proofs.Common.{◌≡◌, ℕ, zero, suc, ◌+◌, ◌-◌, ◌*◌, ◌≤◌, ◌<◌, Bool, true, false, cond, ◌||◌, List, [], ◌∷◌, length, map, All, sum_by, count_by, refl, sym, ap, ◌∙◌, arith, inl, inr, pos, nat_abs, length-append}
use Rattle.std.specs.List.{flat_map, list_any, range_with_len}
use Rattle.std.proofs.lemmas.Bool.{cases_Bool, cases_eq, false≢true}
use Rattle.std.proofs.lemmas.List.Folds.{list_any-append}
use Rattle.std.proofs.lemmas.List.{length-map}
use Rattle.std.proofs.lemmas.List.FromFn.{length-range_with_len}
use Rattle.std.proofs.lemmas.List.Elements.{All-head, All-tail}
use Rattle.std.proofs.lemmas.List.Sums.{sum_by-cons, sum_by-le-sum_by}
use Rattle.bs_board.specs.declared.boards.point.Point.{Point}
use Rattle.bs_board.specs.boards.Cell.{is_on_board, is_same_cell}
use Rattle.bs_food.specs.Free.{all_cells, point_at, row_of_cells}
use Rattle.bs_rules.proofs.CollisionTest.{same_cell}
use Rattle.bs_board.proofs.boards.CellsOnBoard.{stands_at}

or_true : (b : Bool) → (b || true) ≡ true
or_true true = refl
or_true false = refl

-- a cell of the list has a term in the sum
pub term_of : (f : Point → ℕ) (cells : List Point) (p : Point) → list_any (λ q. is_same_cell q p) cells ≡ true → f p ≤ sum_by f cells
term_of f [] p e = absurd (false≢true e)
term_of f (q ∷ cells) p e =
    let all = sum_by-cons f q cells in
    elim (cases_Bool (is_same_cell q p)) [
      | inl here ↦ let same : q ≡ p = (same_cell q p).0 here in let one : f q ≡ f p = ap f same in omega arith
      | inr other ↦ let rest = term_of f cells p (rw other at e) in omega arith
    ]

-- a sum of two terms for each cell
two_sums : (f g : Point → ℕ) (cells : List Point) → sum_by (λ q. f q + g q) cells ≡ sum_by f cells + sum_by g cells
two_sums f g [] = refl
two_sums f g (q ∷ cells) =
    let a = sum_by-cons f q cells in
    let b = sum_by-cons g q cells in
    let c = sum_by-cons (λ r. f r + g r) q cells in
    let rest = two_sums f g cells in
    omega arith

ones : (cells : List Point) → sum_by (λ _. 1) cells ≡ length cells
ones [] = refl
ones (q ∷ cells) = let a = sum_by-cons (λ (_ : Point). 1) q cells in let rest = ones cells in omega arith

-- each part is counted on its cell
pub all_counted : (cells : List Point) (parts : List Point) → All (λ p. list_any (λ q. is_same_cell q p) cells ≡ true) parts
    → length parts ≤ sum_by (λ q. count_by (is_same_cell q) parts) cells
all_counted cells [] on = omega arith
all_counted cells (p ∷ parts) on =
    let rest = all_counted cells parts (All-tail (λ r. list_any (λ q. is_same_cell q r) cells ≡ true) p parts on) in
    let here = All-head (λ r. list_any (λ q. is_same_cell q r) cells ≡ true) p parts on in
    let itself : is_same_cell p p ≡ true = (same_cell p p).1 refl in
    let one : cond {A = ℕ} (is_same_cell p p) 1 0 ≡ 1 = rw itself refl in
    let own = term_of (λ q. cond {A = ℕ} (is_same_cell q p) 1 0) cells p here in
    let two = two_sums (λ q. cond {A = ℕ} (is_same_cell q p) 1 0) (λ q. count_by (is_same_cell q) parts) cells in
    let more = sum_by-le-sum_by (λ q. cond {A = ℕ} (is_same_cell q p) 1 0 + count_by (is_same_cell q) parts) (λ q. count_by (is_same_cell q) (p ∷ parts)) cells
    (λ q. let e = sum_by-cons (λ r. cond {A = ℕ} (is_same_cell q r) 1 0) p parts in omega arith) in
    omega arith

-- the cells, and what is above one on each
pub above_one : (f : Point → ℕ) (cells : List Point) → sum_by f cells ≤ length cells + sum_by (λ q. f q - 1) cells
above_one f cells =
    let more = sum_by-le-sum_by f (λ q. 1 + (f q - 1)) cells (λ q. omega arith) in
    let two = two_sums (λ _. 1) (λ q. f q - 1) cells in
    let one = ones cells in
    omega arith

-- each cell of the board is in the list of all
in_row : (f : Point → Bool) (y a n x : ℕ) → a ≤ x → x < a + n → f (point_at x y) ≡ true → list_any f (map (λ k. point_at k y) (range_with_len a n)) ≡ true
in_row f y a zero x low high e = absurd (omega arith)
in_row f y a (suc n) x low high e = elim (cases_eq a x) [
  | inl same ↦ rw same (rw e refl)
  | inr apart ↦ elim (cases_Bool (f (point_at a y))) [
    | inl here ↦ rw here refl
    | inr other ↦ rw other (in_row f y (a + 1) n x (omega arith) (omega arith) e)
  ]
]

in_rows : (f : Point → Bool) (width a n x y : ℕ) → a ≤ y → y < a + n → x < width → f (point_at x y) ≡ true
    → list_any f (flat_map (row_of_cells width) (range_with_len a n)) ≡ true
in_rows f width a zero x y low high inside e = absurd (omega arith)
in_rows f width a (suc n) x y low high inside e =
    let both = list_any-append f (row_of_cells width a) (flat_map (row_of_cells width) (range_with_len (a + 1) n)) in
    both ∙ elim (cases_eq a y) [
      | inl same ↦ rw (in_row f a 0 width x (omega arith) (omega arith) (rw same e)) refl
      | inr apart ↦ rw (in_rows f width (a + 1) n x y (omega arith) (omega arith) inside e) (or_true (list_any f (row_of_cells width a)))
    ]

pub in_all_cells : (width height : ℕ) (p : Point) → is_on_board width height p ≡ true → list_any (λ q. is_same_cell q p) (all_cells width height) ≡ true
in_all_cells width height p on =
    let at = stands_at width height p on in
    let e : point_at (nat_abs p.x) (nat_abs p.y) ≡ p =
    ap (λ x. record { x = x; y = pos (nat_abs p.y) }) (sym at.x_is) ∙ ap (λ y. record { x = p.x; y = y }) (sym at.y_is) in
    let y_fits = at.y_fits in
    in_rows (λ q. is_same_cell q p) width 0 height (nat_abs p.x) (nat_abs p.y) (omega arith) (omega arith) at.x_fits
    ((same_cell (point_at (nat_abs p.x) (nat_abs p.y)) p).1 e)

length_rows : (width a n : ℕ) → length (flat_map (row_of_cells width) (range_with_len a n)) ≡ width * n
length_rows width a zero = omega arith
length_rows width a (suc n) =
    let rest = length_rows width (a + 1) n in
    let row : length (row_of_cells width a) ≡ width = length-map (range_with_len 0 width) (λ k. point_at k a) ∙ length-range_with_len 0 width in
    let both = length-append (row_of_cells width a) (flat_map (row_of_cells width) (range_with_len (a + 1) n)) in
    let more : width * suc n ≡ width + width * n = omega arith in
    omega arith

pub length_all_cells : (width height : ℕ) → length (all_cells width height) ≡ width * height
length_all_cells width height = length_rows width 0 height
