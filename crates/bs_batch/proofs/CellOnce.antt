-- Each cell is at most once in the list of all cells of a board.
use Rattle.std.proofs.Common.{◌≡◌, ℕ, zero, suc, ◌+◌, ◌<◌, ◌≤◌, Bool, true, cond, map, count_by, nat_abs, refl, ap, arith, inl, inr}
use Rattle.std.specs.List.{flat_map, range_with_len}
use Rattle.std.proofs.lemmas.Bool.{cases_Bool, cases_eq}
use Rattle.std.proofs.lemmas.List.Sums.{sum_by-append, sum_by-cons}
use Rattle.bs_board.specs.declared.boards.point.Point.{Point}
use Rattle.bs_board.specs.boards.Cell.{is_same_cell}
use Rattle.bs_food.specs.Free.{all_cells, point_at, row_of_cells}
use Rattle.bs_rules.proofs.CollisionTest.{same_cell}
use Rattle.bs_batch.proofs.Repeated.{one_at_most}

module _ (c : Point) where
  abbrev is_c : Point → Bool
  is_c q = is_same_cell q c

  abbrev one : Point → ℕ
  one q = cond {A = ℕ} (is_c q) 1 0

  -- the column and the row of the cell
  column_is : (x y : ℕ) → is_c (point_at x y) ≡ true → (x ≡ nat_abs c.x) × (y ≡ nat_abs c.y)
  column_is x y e =
      let same : point_at x y ≡ c = (same_cell (point_at x y) c).0 e in
      (ap (λ (p : Point). nat_abs p.x) same, ap (λ (p : Point). nat_abs p.y) same)

  zero_at : (x y : ℕ) → (is_c (point_at x y) ≡ true → ⊥) → one (point_at x y) ≡ 0
  zero_at x y other = elim (cases_Bool (is_c (point_at x y))) [
    | inl same ↦ absurd (other same)
    | inr off ↦ rw off refl
  ]

  row_none : (y a n : ℕ) → ((x : ℕ) → a ≤ x → is_c (point_at x y) ≡ true → ⊥) → count_by is_c (map (λ k. point_at k y) (range_with_len a n)) ≡ 0
  row_none y a zero off = refl
  row_none y a (suc n) off =
      let all = sum_by-cons one (point_at a y) (map (λ k. point_at k y) (range_with_len (a + 1) n)) in
      let here = zero_at a y (off a (omega arith)) in
      let rest = row_none y (a + 1) n (λ x low. off x (omega arith)) in
      omega arith

  row_once : (y a n : ℕ) → count_by is_c (map (λ k. point_at k y) (range_with_len a n)) ≤ 1
  row_once y a zero = omega arith
  row_once y a (suc n) =
      let all = sum_by-cons one (point_at a y) (map (λ k. point_at k y) (range_with_len (a + 1) n)) in
      let most = one_at_most (is_c (point_at a y)) in
      elim (cases_Bool (is_c (point_at a y))) [
        | inl same ↦
            let at = (column_is a y same).0 in
            let rest = row_none y (a + 1) n (λ x low e. let there = (column_is x y e).0 in absurd (omega arith)) in
            omega arith
        | inr off ↦
            let none : one (point_at a y) ≡ 0 = rw off refl in
            let rest = row_once y (a + 1) n in
            omega arith
      ]

  rows_none : (width a n : ℕ) → nat_abs c.y < a → count_by is_c (flat_map (row_of_cells width) (range_with_len a n)) ≡ 0
  rows_none width a zero past = refl
  rows_none width a (suc n) past =
      let both = sum_by-append one (row_of_cells width a) (flat_map (row_of_cells width) (range_with_len (a + 1) n)) in
      let here = row_none a 0 width (λ x low e. let there = (column_is x a e).1 in absurd (omega arith)) in
      let rest = rows_none width (a + 1) n (omega arith) in
      omega arith

  rows_once : (width a n : ℕ) → count_by is_c (flat_map (row_of_cells width) (range_with_len a n)) ≤ 1
  rows_once width a zero = omega arith
  rows_once width a (suc n) =
      let both = sum_by-append one (row_of_cells width a) (flat_map (row_of_cells width) (range_with_len (a + 1) n)) in
      elim (cases_eq a (nat_abs c.y)) [
        | inl same ↦
            let here = row_once a 0 width in
            let rest = rows_none width (a + 1) n (omega arith) in
            omega arith
        | inr apart ↦
            let here = row_none a 0 width (λ x low e. apart (column_is x a e).1) in
            let rest = rows_once width (a + 1) n in
            omega arith
      ]

  pub once_in_all : (width height : ℕ) → count_by (λ q. is_same_cell q c) (all_cells width height) ≤ 1
  once_in_all width height = rows_once width 0 height
