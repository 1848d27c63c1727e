-- Distinct cells of a board, one more at a time.
use Rattle.std.proofs.Common.{◌≡◌, ℕ, zero, suc, ◌+◌, ◌*◌, ◌<◌, ◌≤◌, Bool, true, false, not, ◌&&◌, ◌||◌, cond, List, [], ◌∷◌, ◌++◌, length, take, get_or, refl, sym, ap, ◌∙◌, arith, inl, inr}
use Rattle.std.specs.List.{list_all, list_any}
use Rattle.std.proofs.lemmas.Bool.{and_parts, cases_Bool}
use Rattle.std.proofs.lemmas.List.{map_push, take_more}
use Rattle.std.proofs.lemmas.List.Folds.{list_all-append}
use Rattle.std.proofs.lemmas.List.Sums.{sum_by-cons, sum_by_push}
use Rattle.bs_board.specs.declared.boards.point.Point.{Point}
use Rattle.bs_board.specs.boards.Cell.{are_distinct_cells, is_on_board, is_same_cell, origin}
use Rattle.bs_board.specs.commands.Setup.{is_fit_food}
use Rattle.bs_rules.proofs.CollisionTest.{same_cell}
use Rattle.bs_batch.specs.Shown.{occupants, parts_on}
use Rattle.bs_batch.specs.inner.Starting.{starter, starters}
use Rattle.bs_batch.proofs.FoodGone.{any_push}
use Rattle.bs_batch.proofs.Started.{starter_parts}

same_both : (p q : Point) → is_same_cell p q ≡ is_same_cell q p
same_both p q = elim (cases_Bool (is_same_cell p q)) [
  | inl same ↦
      let e : p ≡ q = (same_cell p q).0 same in
      let back : is_same_cell q p ≡ true = (same_cell q p).1 (sym e) in
      same ∙ sym back
  | inr other ↦ elim (cases_Bool (is_same_cell q p)) [
    | inl back ↦
        let e : q ≡ p = (same_cell q p).0 back in
        let same : is_same_cell p q ≡ true = (same_cell p q).1 (sym e) in
        same ∙ sym back
    | inr neither ↦ other ∙ sym neither
  ]
]

four : (a s d n : Bool) → (not (a || s) && (d && not n)) ≡ ((not a && d) && not (s || n))
four true s d n = refl
four false true true n = refl
four false true false n = refl
four false false true n = refl
four false false false n = refl

distinct_push : (xs : List Point) (p : Point) → are_distinct_cells (xs ++ p ∷ []) ≡ (are_distinct_cells xs && not (list_any (is_same_cell p) xs))
distinct_push [] p = refl
distinct_push (x ∷ xs) p =
    let rest = distinct_push xs p in
    let any = any_push (is_same_cell x) xs p in
    let back = same_both p x in
    rw (any, rest, back) (four (list_any (is_same_cell x) xs) (is_same_cell x p) (are_distinct_cells xs) (list_any (is_same_cell p) xs))

four_more : (a o d n : Bool) → ((a && (o && true)) && (d && n)) ≡ ((a && d) && (o && n))
four_more true true d n = refl
four_more true false true n = refl
four_more true false false n = refl
four_more false o d n = refl

module _ (width height : ℕ) where
  abbrev fit : List Point → Bool
  fit = is_fit_food width height

  pub fit_push : (xs : List Point) (p : Point) → fit (xs ++ p ∷ []) ≡ (fit xs && (is_on_board width height p && not (list_any (is_same_cell p) xs)))
  fit_push xs p =
      let all : list_all (is_on_board width height) (xs ++ p ∷ []) ≡ (list_all (is_on_board width height) xs && (is_on_board width height p && true)) =
      list_all-append (is_on_board width height) xs (p ∷ []) in
      let apart = distinct_push xs p in
      rw (all, apart) (four_more (list_all (is_on_board width height) xs) (is_on_board width height p) (are_distinct_cells xs) (not (list_any (is_same_cell p) xs)))

  front_of : (f : Point → Bool) (k : ℕ) (xs : List Point) → list_all f xs ≡ true → list_all f (take k xs) ≡ true
  front_of f zero xs all = refl
  front_of f (suc k) [] all = refl
  front_of f (suc k) (x ∷ xs) all =
      let parts = and_parts (f x) (list_all f xs) all in
      let rest = front_of f k xs parts.1 in
      rw (parts.0, rest) refl

  none_in_front : (f : Point → Bool) (k : ℕ) (xs : List Point) → not (list_any f xs) ≡ true → not (list_any f (take k xs)) ≡ true
  none_in_front f zero xs none = refl
  none_in_front f (suc k) [] none = refl
  none_in_front f (suc k) (x ∷ xs) none = elim (cases_Bool (f x)) [
    | inl there ↦ let wrong : false ≡ true = ap (λ b. not (b || list_any f xs)) (sym there) ∙ none in cc
    | inr other ↦
        let rest = none_in_front f k xs (ap (λ b. not (b || list_any f xs)) (sym other) ∙ none) in
        ap (λ b. not (b || list_any f (take k xs))) other ∙ rest
  ]

  distinct_front : (k : ℕ) (xs : List Point) → are_distinct_cells xs ≡ true → are_distinct_cells (take k xs) ≡ true
  distinct_front zero xs distinct = refl
  distinct_front (suc k) [] distinct = refl
  distinct_front (suc k) (x ∷ xs) distinct =
      let parts = and_parts (not (list_any (is_same_cell x) xs)) (are_distinct_cells xs) distinct in
      let none = none_in_front (is_same_cell x) k xs parts.0 in
      let rest = distinct_front k xs parts.1 in
      rw (none, rest) refl

  pub fit_front : (k : ℕ) (xs : List Point) → fit xs ≡ true → fit (take k xs) ≡ true
  fit_front k xs fits =
      let parts = and_parts (list_all (is_on_board width height) xs) (are_distinct_cells xs) fits in
      let all = front_of (is_on_board width height) k xs parts.0 in
      let apart = distinct_front k xs parts.1 in
      rw (all, apart) refl

  pub fit_more : (i : ℕ) (xs : List Point) → i < length xs → fit (take i xs) ≡ true → is_on_board width height (get_or xs i origin) ≡ true
      → list_any (is_same_cell (get_or xs i origin)) (take i xs) ≡ false → fit (take (i + 1) xs) ≡ true
  fit_more i xs within fits on none =
      ap fit (take_more xs i origin within) ∙ fit_push (take i xs) (get_or xs i origin) ∙ rw (fits, on, none) refl

  -- the next of distinct cells of the board
  pub next_fits : (i : ℕ) (xs : List Point) → i < length xs → fit xs ≡ true
      → (is_on_board width height (get_or xs i origin) ≡ true) × (list_any (is_same_cell (get_or xs i origin)) (take i xs) ≡ false)
  next_fits i xs within fits =
      let p = get_or xs i origin in
      let whole : (fit (take i xs) && (is_on_board width height p && not (list_any (is_same_cell p) (take i xs)))) ≡ true =
      sym (fit_push (take i xs) p) ∙ ap fit (sym (take_more xs i origin within)) ∙ fit_front (i + 1) xs fits in
      let last = and_parts (fit (take i xs)) (is_on_board width height p && not (list_any (is_same_cell p) (take i xs))) whole in
      let both = and_parts (is_on_board width height p) (not (list_any (is_same_cell p) (take i xs))) last.1 in (
        both.0,
        elim (cases_Bool (list_any (is_same_cell p) (take i xs))) [
          | inl there ↦ let wrong : false ≡ true = ap not (sym there) ∙ both.1 in cc
          | inr none ↦ none
        ],
      )

-- the parts of new snakes
pub one_more_starter : (i : ℕ) (ps : List Point) (q : Point) → i < length ps
    → occupants (starters (take (i + 1) ps)) q ≡ occupants (starters (take i ps)) q + parts_on q (starter (get_or ps i origin))
one_more_starter i ps q within =
    ap (λ l. occupants (starters l) q) (take_more ps i origin within) ∙ ap (λ l. occupants l q) (map_push starter (take i ps) (get_or ps i origin))
    ∙ sum_by_push (parts_on q) (starters (take i ps)) (starter (get_or ps i origin))

pub none_here : (ps : List Point) (q : Point) → list_any (is_same_cell q) ps ≡ false → occupants (starters ps) q ≡ 0
none_here [] q none = refl
none_here (p ∷ ps) q none = elim (cases_Bool (is_same_cell q p)) [
  | inl same ↦ let wrong : true ≡ false = ap (λ b. b || list_any (is_same_cell q) ps) (sym same) ∙ none in cc
  | inr other ↦
      let rest = none_here ps q (ap (λ b. b || list_any (is_same_cell q) ps) (sym other) ∙ none) in
      let more : occupants (starters (p ∷ ps)) q ≡ parts_on q (starter p) + occupants (starters ps) q = sum_by-cons (parts_on q) (starter p) (starters ps) in
      let three = starter_parts q p in
      let off : cond {A = ℕ} (is_same_cell q p) 1 0 ≡ 0 = ap (λ b. cond {A = ℕ} b 1 0) other in
      omega arith
]

pub free_cell : (ps : List Point) (q : Point) → occupants (starters ps) q ≡ 0 → list_any (is_same_cell q) ps ≡ false
free_cell [] q free = refl
free_cell (p ∷ ps) q free =
    let more : occupants (starters (p ∷ ps)) q ≡ parts_on q (starter p) + occupants (starters ps) q = sum_by-cons (parts_on q) (starter p) (starters ps) in
    let three = starter_parts q p in
    elim (cases_Bool (is_same_cell q p)) [
      | inl same ↦
          let here : cond {A = ℕ} (is_same_cell q p) 1 0 ≡ 1 = ap (λ b. cond {A = ℕ} b 1 0) same in
          absurd (omega arith)
      | inr other ↦ ap (λ b. b || list_any (is_same_cell q) ps) other ∙ free_cell ps q (omega arith)
    ]

one_at_most : (b : Bool) → cond {A = ℕ} b 1 0 ≤ 1
one_at_most true = omega arith
one_at_most false = omega arith

pub few_starters : (ps : List Point) (q : Point) → occupants (starters ps) q ≤ 3 * length ps
few_starters [] q = omega arith
few_starters (p ∷ ps) q =
    let rest = few_starters ps q in
    let more : occupants (starters (p ∷ ps)) q ≡ parts_on q (starter p) + occupants (starters ps) q = sum_by-cons (parts_on q) (starter p) (starters ps) in
    let three = starter_parts q p in
    let one = one_at_most (is_same_cell q p) in
    omega arith
