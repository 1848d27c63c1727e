-- The open stays have distinct names.
use Rattle.std.proofs.Common.{◌≡◌, ℕ, zero, suc, ◌+◌, ◌<◌, true, false, not, Bool, List, [], ◌∷◌, ◌++◌, Some, length, drop, get_or, map, take, slice_index_or, refl, sym, ap, ◌∙◌, inl, inr, arith}
use Rattle.std.specs.Prelude.{nat_eq, nat_lt}
use Rattle.std.specs.List.{enumerate_from, filter, list_any, position, position_or_len}
use Rattle.std.proofs.lemmas.Bool.{and_parts, cases_Bool, ltb-true, not-true}
use Rattle.std.proofs.lemmas.List.{take-append-drop}
use Rattle.std.proofs.lemmas.List.Folds.{list_any-append, list_any_at}
use Rattle.std.proofs.lemmas.Slice.Eq.{bytes_eq-Decides}
use Rattle.bs_board.specs.Distinct.{are_distinct}
use Rattle.bs_board.specs.plans.Plan.{GameRow, have_distinct_names, row_of}
use Rattle.bs_board.specs.Texts.{is_same_text}
use Rattle.bs_board.proofs.Chains.{and_both, or_both}
use Rattle.bs_board.proofs.Distinct.{are_distinct_map, distinct_of_filter}
use Rattle.bs_registry.specs.OpenStays.{are_named_once, bears}
use Rattle.bs_registry.specs.inner.OpenStays.{is_named_at}

-- If no two elements of a list pass a test, an element that passes it is the first one that passes.
pub only_first : {X : Type 0} (same : X → X → Bool) (p : X → Bool) → ((x y : X) → p x ≡ true → p y ≡ true → same x y ≡ true)
    → (xs : List X) (i : ℕ) (d : X) → are_distinct same xs ≡ true → i < length xs → p (get_or xs i d) ≡ true → position_or_len p xs ≡ i
only_first same p alike [] i d distinct within hit = absurd (omega arith)
only_first same p alike (x ∷ xs) zero d distinct within hit = rw hit refl
only_first same p alike (x ∷ xs) (suc i) d distinct within hit =
    let apart : (not (list_any (same x) xs) ≡ true) × (are_distinct same xs ≡ true) = and_both _ _ distinct in
    elim (cases_Bool (p x)) [
      | inl on ↦
          let twice : list_any (same x) xs ≡ true = list_any_at (same x) xs i d (omega (arith, within)) (alike x (get_or xs i d) on hit) in
          let wrong : false ≡ true = rw twice at apart.0 in
          absurd cc
      | inr off ↦
          let behind : position_or_len p xs ≡ i = only_first same p alike xs i d apart.1 (omega (arith, within)) hit in
          rw off (omega (arith, behind))
    ]

abbrev have_one_name : ℕ × GameRow → ℕ × GameRow → Bool
have_one_name one other = is_same_text one.1.game other.1.game

have_one : (name : List ℕ) (one other : ℕ × GameRow) → bears name one ≡ true → bears name other ≡ true → have_one_name one other ≡ true
have_one name one other first second =
    let same : name ≡ one.1.game = (bytes_eq-Decides name one.1.game).0 first in
    rw same at second

-- a stay of that name is the first one of it
pub only_place : (name : List ℕ) (place : ℕ) (stays : List (ℕ × GameRow)) → are_named_once stays ≡ true → is_named_at name place stays ≡ true
    → position (bears name) stays ≡ Some place
only_place name place stays once at =
    let parts = and_parts (nat_lt place (length stays)) (bears name (slice_index_or stays place (0, row_of [] 0))) at in
    let within = ltb-true place (length stays) parts.0 in
    let first = only_first have_one_name (bears name) (have_one name) stays place (0, row_of [] 0) once within parts.1 in
    rw (first, parts.0) refl

without_numbers : (first : ℕ) (rows : List GameRow) → map (λ (stay : ℕ × GameRow). stay.1) (enumerate_from first rows) ≡ rows
without_numbers first [] = refl
without_numbers first (row ∷ rows) = ap (λ rest. row ∷ rest) (without_numbers (first + 1) rows)

-- the rows of a plan are named once
pub plan_named_once : (rows all : List GameRow) (stays : List (ℕ × GameRow)) → have_distinct_names rows ≡ true → all ≡ rows → stays ≡ enumerate_from 0 all
    → are_named_once stays ≡ true
plan_named_once rows all stays distinct same are =
    ap are_named_once (are ∙ ap (enumerate_from 0) same) ∙ sym (are_distinct_map (λ r s. is_same_text r.game s.game) (λ (stay : ℕ × GameRow). stay.1) (enumerate_from 0 rows))
    ∙ ap have_distinct_names (without_numbers 0 rows) ∙ distinct

turned : (name other : List ℕ) → is_same_text name other ≡ false → is_same_text other name ≡ false
turned name other differ = elim (cases_Bool (is_same_text other name)) [
  | inl same ↦
      let is : other ≡ name = (bytes_eq-Decides other name).0 same in
      let wrong : is_same_text name other ≡ true = (bytes_eq-Decides name other).1 (sym is) in
      let clash : false ≡ true = sym differ ∙ wrong in
      absurd cc
  | inr others ↦ others
]

-- one more stay of another name
pub pushed_named_once : (stays : List (ℕ × GameRow)) (number : ℕ) (row : GameRow) → are_named_once stays ≡ true → list_any (bears row.game) stays ≡ false
    → are_named_once (stays ++ (number, row) ∷ []) ≡ true
pushed_named_once [] number row once new = refl
pushed_named_once (stay ∷ stays) number row once new =
    let apart : (not (list_any (have_one_name stay) stays) ≡ true) × (are_named_once stays ≡ true) = and_both _ _ once in
    let differ : (bears row.game stay ≡ false) × (list_any (bears row.game) stays ≡ false) = or_both _ _ new in
    let none = not-true _ apart.0 in
    let other = turned row.game stay.1.game differ.0 in
    let any = list_any-append (have_one_name stay) stays ((number, row) ∷ []) in
    rw (any, none, other) (pushed_named_once stays number row apart.1 differ.1)

-- the other stays, when one leaves
pub rest_named_once : (stay : ℕ) (stays : List (ℕ × GameRow)) → are_named_once stays ≡ true
    → are_named_once (filter (λ other. not (nat_eq other.0 stay)) stays) ≡ true
rest_named_once stay stays once = distinct_of_filter have_one_name (λ other. not (nat_eq other.0 stay)) stays once

-- a prefix
pub first_named_once : (n : ℕ) (stays : List (ℕ × GameRow)) → are_named_once stays ≡ true → are_named_once (take n stays) ≡ true
first_named_once zero stays once = refl
first_named_once (suc n) [] once = refl
first_named_once (suc n) (stay ∷ stays) once =
    let apart : (not (list_any (have_one_name stay) stays) ≡ true) × (are_named_once stays ≡ true) = and_both _ _ once in
    let parts = list_any-append (have_one_name stay) (take n stays) (drop n stays) in
    let none : (list_any (have_one_name stay) (take n stays) ≡ false) × (list_any (have_one_name stay) (drop n stays) ≡ false)
    = or_both _ _ (sym parts ∙ ap (list_any (have_one_name stay)) (take-append-drop n stays) ∙ not-true _ apart.0) in
    rw none.0 (first_named_once n stays apart.1)
