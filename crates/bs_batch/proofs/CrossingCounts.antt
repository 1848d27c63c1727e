-- The crossings of a body are counted part by part.
use Rattle.std.proofs.Common.{◌≡◌, ℕ, ◌+◌, ◌-◌, ◌%◌, ◌≤◌, ◌<◌, Bool, true, false, cond, List, [], ◌∷◌, ◌++◌, length, take, get_or, All, sum_by, count_by, refl, sym, ap, ◌∙◌, arith, inl, inr}
use Rattle.std.specs.List.{list_any}
use Rattle.std.proofs.lemmas.Bool.{cases_Bool, false≢true}
use Rattle.std.proofs.lemmas.List.{get_or_default, take_more}
use Rattle.std.proofs.lemmas.List.Elements.{All-get_or}
use Rattle.std.proofs.lemmas.List.Sums.{sum_by-cons, sum_by_push}
use Rattle.bs_board.specs.declared.boards.point.Point.{Point}
use Rattle.bs_board.specs.boards.Cell.{is_on_board, is_same_cell, origin}
use Rattle.bs_food.specs.Free.{all_cells}
use Rattle.bs_rules.proofs.CollisionTest.{has_cell, same_cell}
use Rattle.bs_batch.proofs.Alone.{counted}
use Rattle.bs_batch.proofs.CellCounts.{in_all_cells, term_of}
use Rattle.bs_batch.proofs.CellOnce.{once_in_all}
use Rattle.bs_batch.proofs.Crossings.{none_counted}
use Rattle.bs_batch.proofs.Repeated.{one_at_most}

-- the parts on each cell above one
abbrev pub above : List Point → List Point → ℕ
above cells parts = sum_by (λ p. count_by (is_same_cell p) parts - 1) cells

not_any : (front : List Point) (x : Point) → list_any (is_same_cell x) front ≡ false → count_by (is_same_cell x) front ≡ 0
not_any front x none = none_counted front x (λ there. false≢true (sym none ∙ (has_cell front x).1 there))

-- the term of one cell
term_more : (front : List Point) (x p : Point) → count_by (is_same_cell p) (front ++ x ∷ []) - 1
    ≡ (count_by (is_same_cell p) front - 1) + cond (is_same_cell p x) (cond (list_any (is_same_cell x) front) 1 0) 0
term_more front x p =
    let push : count_by (is_same_cell p) (front ++ x ∷ []) ≡ count_by (is_same_cell p) front + cond (is_same_cell p x) 1 0 =
    sum_by_push (λ r. cond {A = ℕ} (is_same_cell p r) 1 0) front x in
    elim (cases_Bool (is_same_cell p x)) [
      | inr other ↦
          let zero : cond {A = ℕ} (is_same_cell p x) 1 0 ≡ 0 = rw other refl in
          rw other (omega arith)
      | inl same ↦
          let e : p ≡ x = (same_cell p x).0 same in
          let one : cond {A = ℕ} (is_same_cell p x) 1 0 ≡ 1 = rw same refl in
          let n : count_by (is_same_cell p) front ≡ count_by (is_same_cell x) front = ap (λ q. count_by (is_same_cell q) front) e in
          elim (cases_Bool (list_any (is_same_cell x) front)) [
            | inl any ↦ let some = counted (is_same_cell x) front any in rw (same, any) (omega arith)
            | inr none ↦ let zero = not_any front x none in rw (same, none) (omega arith)
          ]
    ]

above_more : (cells front : List Point) (x : Point)
    → above cells (front ++ x ∷ []) ≡ above cells front + sum_by (λ p. cond {A = ℕ} (is_same_cell p x) (cond (list_any (is_same_cell x) front) 1 0) 0) cells
above_more [] front x = refl
above_more (p ∷ cells) front x =
    let a = sum_by-cons (λ q. count_by (is_same_cell q) (front ++ x ∷ []) - 1) p cells in
    let b = sum_by-cons (λ q. count_by (is_same_cell q) front - 1) p cells in
    let c = sum_by-cons (λ q. cond {A = ℕ} (is_same_cell q x) (cond (list_any (is_same_cell x) front) 1 0) 0) p cells in
    let here = term_more front x p in
    let rest = above_more cells front x in
    omega arith

nothing : (b : Bool) → cond {A = ℕ} b 0 0 ≡ 0
nothing true = refl
nothing false = refl

all_nothing : (x : Point) (cells : List Point) → sum_by (λ p. cond {A = ℕ} (is_same_cell p x) 0 0) cells ≡ 0
all_nothing x [] = refl
all_nothing x (p ∷ cells) =
    let a = sum_by-cons (λ q. cond {A = ℕ} (is_same_cell q x) 0 0) p cells in
    let here = nothing (is_same_cell p x) in
    let rest = all_nothing x cells in
    omega arith

once : (x : Point) (cells : List Point) (any : Bool) → count_by (λ q. is_same_cell q x) cells ≡ 1
    → sum_by (λ p. cond {A = ℕ} (is_same_cell p x) (cond any 1 0) 0) cells ≡ cond any 1 0
once x cells true one = one
once x cells false one = all_nothing x cells

-- one part more
pub one_more_part : (width height : ℕ) (body : List Point) (i : ℕ) → i < length body → All (λ p. is_on_board width height p ≡ true) body
    → above (all_cells width height) (take (i + 1) body)
    ≡ above (all_cells width height) (take i body) + cond (list_any (is_same_cell (get_or body i origin)) (take i body)) 1 0
one_more_part width height body i within on =
    let x = get_or body i origin in
    let here = All-get_or (λ p. is_on_board width height p ≡ true) body i origin within on in
    let most = once_in_all x width height in
    let itself : is_same_cell x x ≡ true = (same_cell x x).1 refl in
    let own : cond {A = ℕ} (is_same_cell x x) 1 0 ≡ 1 = rw itself refl in
    let least = term_of (λ q. cond {A = ℕ} (is_same_cell q x) 1 0) (all_cells width height) x (in_all_cells width height x here) in
    let exact : count_by (λ q. is_same_cell q x) (all_cells width height) ≡ 1 = omega arith in
    ap (above (all_cells width height)) (take_more body i origin within) ∙ above_more (all_cells width height) (take i body) x
    ∙ ap (λ n. above (all_cells width height) (take i body) + n) (once x (all_cells width height) (list_any (is_same_cell x) (take i body)) exact)

pub none_above : (cells : List Point) → above cells [] ≡ 0
none_above [] = refl
none_above (p ∷ cells) = let a = sum_by-cons (λ q. count_by (is_same_cell q) [] - 1) p cells in let rest = none_above cells in omega arith

pub next_count : (width height : ℕ) (body : List Point) (d : Point) (i count bit : ℕ) (again : Bool) → i < length body → count ≤ i → length body ≤ 18446744073709551615
    → again ≡ list_any (is_same_cell (get_or body i d)) (take i body) → bit ≡ cond again 1 0 → All (λ p. is_on_board width height p ≡ true) body
    → count ≡ above (all_cells width height) (take i body) → (count + bit) % 18446744073709551616 ≡ above (all_cells width height) (take (i + 1) body)
next_count width height body d i count bit again within few long is one on so_far =
    let most = one_at_most again in
    let more = one_more_part width height body i within on in
    let same : again ≡ list_any (is_same_cell (get_or body i origin)) (take i body) = is ∙ ap (λ x. list_any (is_same_cell x) (take i body)) (get_or_default body i d origin within) in
    let bits : bit ≡ cond (list_any (is_same_cell (get_or body i origin)) (take i body)) 1 0 = one ∙ ap (λ b. cond {A = ℕ} b 1 0) same in
    omega arith
