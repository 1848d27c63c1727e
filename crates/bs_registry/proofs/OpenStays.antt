-- The open stays determine all that routing needs of the registry.
use Rattle.std.proofs.Common.{◌≡◌, ℕ, zero, suc, ◌+◌, ◌<◌, Bool, true, false, ◌||◌, not, if◌then◌else◌, List, [], ◌∷◌, ◌++◌, Option, Some, None, length, option_map, inl, inr, refl, sym, ap, ◌∙◌, arith}
use Rattle.std.specs.Prelude.{nat_eq, count_by, sum_by, slice_set}
use Rattle.std.specs.List.{filter, list_any, position, position_or_len}
use Rattle.std.proofs.lemmas.Bool.{and_parts, cases_Bool, cases_lt, eq-eqb, ne_eqb, le-ltb, lt-ltb}
use Rattle.std.proofs.lemmas.List.Sums.{sum_by-cons}
use Rattle.bs_board.specs.plans.Plan.{GameRow}
use Rattle.bs_board.specs.Texts.{is_same_text}
use Rattle.bs_registry.specs.Blocks.{blocks_of}
use Rattle.bs_registry.specs.Stays.{Stay, blocks_in_registry, closed_stay, has_name, open_stay, stay_at}
use Rattle.bs_registry.specs.OpenStays.{bears, found_in, open_from, open_of}
use Rattle.bs_registry.specs.inner.OpenStays.{OpenLaw}

pushed : (first : ℕ) (registry : List Stay) (row : GameRow) → open_from first (registry ++ open_stay row ∷ []) ≡ open_from first registry ++ (first + length registry, row) ∷ []
pushed first [] row = ap (λ n. (n, row) ∷ []) (omega arith)
pushed first (entry ∷ registry) row =
    let e : first + 1 + length registry ≡ first + suc (length registry) = omega arith in
    let rest = pushed (first + 1) registry row ∙ ap (λ n. open_from (first + 1) registry ++ (n, row) ∷ []) e in
    elim (cases_Bool entry.is_open) [
      | inl on ↦ rw on (ap (λ stays. (first, entry.row) ∷ stays) rest)
      | inr off ↦ rw off rest
    ]

abbrev without : ℕ → List (ℕ × GameRow) → List (ℕ × GameRow)
without stay = filter (λ other. not (nat_eq other.0 stay))

later_stay : (first stay : ℕ) (registry : List Stay) → stay < first → without stay (open_from first registry) ≡ open_from first registry
later_stay first stay [] before = refl
later_stay first stay (entry ∷ registry) before =
    let rest = later_stay (first + 1) stay registry (omega (arith, before)) in
    let apart : nat_eq first stay ≡ false = ne_eqb first stay (λ e. omega (arith, e, before)) in
    elim (cases_Bool entry.is_open) [
      | inl on ↦ rw (on, apart) (ap (λ stays. (first, entry.row) ∷ stays) rest)
      | inr off ↦ rw off rest
    ]

closed_first : (first : ℕ) (entry : Stay) (registry : List Stay) → open_from (first + 1) registry ≡ without first (open_from first (entry ∷ registry))
closed_first first entry registry =
    let same : nat_eq first first ≡ true = eq-eqb first first refl in
    let rest = sym (later_stay (first + 1) first registry (omega arith)) in
    elim (cases_Bool entry.is_open) [
      | inl on ↦ rw (on, same) rest
      | inr off ↦ rw off rest
    ]

closed : (first : ℕ) (registry : List Stay) (at : ℕ) → open_from first (slice_set registry at (closed_stay (stay_at registry at))) ≡ without (first + at) (open_from first registry)
closed first [] at = refl
closed first (entry ∷ registry) zero =
    let here : first ≡ first + 0 = omega arith in
    closed_first first entry registry ∙ ap (λ n. without n (open_from first (entry ∷ registry))) here
closed first (entry ∷ registry) (suc at) =
    let e : first + 1 + at ≡ first + suc at = omega arith in
    let apart : nat_eq first (first + suc at) ≡ false = ne_eqb first (first + suc at) (λ same. omega (arith, same)) in
    let rest = closed (first + 1) registry at ∙ ap (λ n. without n (open_from (first + 1) registry)) e in
    elim (cases_Bool entry.is_open) [
      | inl on ↦ rw (on, apart) (ap (λ stays. (first, entry.row) ∷ stays) rest)
      | inr off ↦ rw off rest
    ]

pub position_behind : {X : Type 0} (p : X → Bool) (x : X) (xs : List X) → p x ≡ false → position p (x ∷ xs) ≡ option_map (λ i. 1 + i) (position p xs)
position_behind p x xs off = elim (cases_lt (position_or_len p xs) (length xs)) [
  | inl within ↦
      let one = lt-ltb (position_or_len p xs) (length xs) within in
      let more = lt-ltb (1 + position_or_len p xs) (suc (length xs)) (omega (arith, within)) in
      rw (off, one, more) refl
  | inr past ↦
      let one = le-ltb (position_or_len p xs) (length xs) past in
      let more = le-ltb (1 + position_or_len p xs) (suc (length xs)) (omega (arith, past)) in
      rw (off, one, more) refl
]

moved : (first : ℕ) (o : Option ℕ) → option_map (λ i. first + 1 + i) o ≡ option_map (λ i. first + i) (option_map (λ i. 1 + i) o)
moved first None = refl
moved first (Some i) = let e : first + 1 + i ≡ first + (1 + i) = omega arith in ap (λ n. Some n) e

missed : (name : List ℕ) (first : ℕ) (entry : Stay) (registry : List Stay) → has_name name entry ≡ false
    → found_in name (open_from first (entry ∷ registry)) ≡ found_in name (open_from (first + 1) registry)
missed name first entry registry miss = elim (cases_Bool entry.is_open) [
  | inl on ↦ let other : is_same_text name entry.row.game ≡ false = rw on at miss in rw (on, other) refl
  | inr off ↦ rw off refl
]

named_from : (name : List ℕ) (first : ℕ) (registry : List Stay) → found_in name (open_from first registry) ≡ option_map (λ i. first + i) (position (has_name name) registry)
named_from name first [] = refl
named_from name first (entry ∷ registry) =
    let rest = named_from name (first + 1) registry ∙ moved first (position (has_name name) registry) in
    elim (cases_Bool (has_name name entry)) [
      | inl hit ↦
          let parts = and_parts entry.is_open (is_same_text name entry.row.game) hit in
          let here : first ≡ first + 0 = omega arith in
          let at : position (has_name name) (entry ∷ registry) ≡ Some 0 = (let more = lt-ltb 0 (suc (length registry)) (omega arith) in rw (hit, more) refl) in
          (rw (parts.0, parts.1) (ap (λ n. Some n) here)) ∙ sym (ap (λ o. option_map (λ i. first + i) o) at)
      | inr miss ↦
          let behind = position_behind (has_name name) entry registry miss in
          let skipped : found_in name (open_from first (entry ∷ registry)) ≡ found_in name (open_from (first + 1) registry) = missed name first entry registry miss in
          skipped ∙ rest ∙ sym (ap (λ o. option_map (λ i. first + i) o) behind)
    ]

same_option : (o : Option ℕ) → option_map (λ i. 0 + i) o ≡ o
same_option None = refl
same_option (Some i) = let e : 0 + i ≡ i = omega arith in ap (λ n. Some n) e

any_from : (name : List ℕ) (first : ℕ) (registry : List Stay) → list_any (has_name name) registry ≡ list_any (bears name) (open_from first registry)
any_from name first [] = refl
any_from name first (entry ∷ registry) =
    let rest = any_from name (first + 1) registry in
    elim (cases_Bool entry.is_open) [
      | inl on ↦ rw on (ap (λ b. is_same_text name entry.row.game || b) rest)
      | inr off ↦ rw off rest
    ]

abbrev if_open : Bool → ℕ → ℕ
if_open b n = if b then n else 0

counted : (b : Bool) (n : ℕ) → b ≡ true → if_open b n ≡ n
counted true n on = refl
counted false n on = absurd cc

passed : (b : Bool) (n : ℕ) → b ≡ false → if_open b n ≡ 0
passed true n off = absurd cc
passed false n off = refl

many_from : (first : ℕ) (registry : List Stay) → count_by (λ (e : Stay). e.is_open) registry ≡ length (open_from first registry)
many_from first [] = refl
many_from first (entry ∷ registry) =
    let one = sum_by-cons (λ (e : Stay). if e.is_open then 1 else 0) entry registry in
    let rest = many_from (first + 1) registry in
    elim (cases_Bool entry.is_open) [
      | inl on ↦ let head = counted entry.is_open 1 on in let all : length (open_from first (entry ∷ registry)) ≡ suc (length (open_from (first + 1) registry)) = rw on refl in omega (arith, one, rest, head, all)
      | inr off ↦ let head = passed entry.is_open 1 off in let all : length (open_from first (entry ∷ registry)) ≡ length (open_from (first + 1) registry) = rw off refl in omega (arith, one, rest, head, all)
    ]

module _ (cap : ℕ) where
  abbrev total : List (ℕ × GameRow) → ℕ
  total = sum_by (λ stay. blocks_of cap stay.1)

  blocks_from : (first : ℕ) (registry : List Stay) → blocks_in_registry cap registry ≡ total (open_from first registry)
  blocks_from first [] = refl
  blocks_from first (entry ∷ registry) =
      let b = blocks_of cap entry.row in
      let one = sum_by-cons (λ (e : Stay). if e.is_open then blocks_of cap e.row else 0) entry registry in
      let rest = blocks_from (first + 1) registry in
      let with_one = sum_by-cons (λ (stay : ℕ × GameRow). blocks_of cap stay.1) (first, entry.row) (open_from (first + 1) registry) in
      elim (cases_Bool entry.is_open) [
        | inl on ↦
            let head = counted entry.is_open b on in
            let all : total (open_from first (entry ∷ registry)) ≡ total ((first, entry.row) ∷ open_from (first + 1) registry) = rw on refl in
            omega (arith, one, rest, head, all, with_one)
        | inr off ↦
            let head = passed entry.is_open b off in
            let all : total (open_from first (entry ∷ registry)) ≡ total (open_from (first + 1) registry) = rw off refl in
            omega (arith, one, rest, head, all)
      ]

from_zero : (n : ℕ) → 0 + n ≡ n
from_zero n = omega arith

pub open_law : OpenLaw
open_law size registry =
    record {
      named = λ name. sym (named_from name 0 registry ∙ same_option (position (has_name name) registry));
      any = λ name. any_from name 0 registry;
      many = many_from 0 registry;
      blocks = blocks_from size 0 registry;
      admits = λ row. pushed 0 registry row ∙ ap (λ n. open_of registry ++ (n, row) ∷ []) (from_zero (length registry));
      leaves = λ stay. closed 0 registry stay ∙ ap (λ n. without n (open_of registry)) (from_zero stay);
    }
