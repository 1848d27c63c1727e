-- A stay that is found by its name and number is one of the file's.
use Rattle.std.proofs.Common.{◌≡◌, ℕ, suc, ◌+◌, ◌-◌, ◌<◌, true, false, ◌&&◌, if◌then◌else◌, List, [], ◌∷◌, Option, Some, None, length, inl, inr, refl, sym, ap, ◌∙◌, arith}
use Rattle.std.specs.Prelude.{nat_eq, option_map}
use Rattle.std.proofs.lemmas.Bool.{and_parts, cases_Bool}
use Rattle.bs_board.specs.plans.Plan.{GameRow}
use Rattle.bs_board.specs.Texts.{is_same_text}
use Rattle.bs_host.specs.Cut.{nth_from, row_at}
use Rattle.bs_host.specs.Laws.{FoundLaw, IsFound}
use Rattle.bs_host.specs.Routing.{stays_of}

-- by its place among the rows
record Stands (first : ℕ) (rows : List GameRow) (name : List ℕ) (found : ℕ × GameRow) : Type 0 where
  at : ℕ
  place : found.0 ≡ first + at
  within : at < length rows
  named : is_same_text name (row_at rows at).game ≡ true
  its_row : found.1 ≡ row_at rows at

behind : (first : ℕ) (row : GameRow) (rows : List GameRow) (name : List ℕ) (found : ℕ × GameRow) → Stands (first + 1) rows name found → Stands first (row ∷ rows) name found
behind first row rows name found there =
    record { at = suc there.at; place = omega (arith, there.place); within = omega (arith, there.within); named = there.named; its_row = there.its_row }

same_pair : (first : ℕ) (row : GameRow) (found : ℕ × GameRow) → Some (first, row) ≡ Some found → (found.0 ≡ first) × (found.1 ≡ row)
same_pair first row found same = (cc, cc)

stands : (first : ℕ) (rows : List GameRow) (name : List ℕ) (n : ℕ) (found : ℕ × GameRow) → nth_from first rows name n ≡ Some found → Stands first rows name found
stands first [] name n found is = absurd cc
stands first (row ∷ rows) name n found is = elim (cases_Bool (is_same_text name row.game)) [
  | inl same ↦ elim (cases_Bool (nat_eq n 1)) [
    | inl last ↦
        let one : Some (first, row) ≡ Some found = rw (same, last) at is in
        let e = same_pair first row found one in
        let here = e.0 in
        record { at = 0; place = omega (arith, here); within = omega arith; named = same; its_row = e.1 }
    | inr more ↦
        let rest : nth_from (first + 1) rows name (n - 1) ≡ Some found = rw (same, more) at is in
        behind first row rows name found (stands (first + 1) rows name (n - 1) found rest)
  ]
  | inr other ↦
      let rest : nth_from (first + 1) rows name n ≡ Some found = rw other at is in
      behind first row rows name found (stands (first + 1) rows name n found rest)
]

pub found_row : (rows : List GameRow) (name : List ℕ) (n : ℕ) (found : ℕ × GameRow) → nth_from 0 rows name n ≡ Some found → found.1 ≡ row_at rows found.0
found_row rows name n found is =
    let there = stands 0 rows name n found is in
    let at : there.at ≡ found.0 = omega (arith, there.place) in
    there.its_row ∙ ap (row_at rows) at

by_found : (blocks : ℕ) (file name : List ℕ) (n stay : ℕ) (found : Option (ℕ × GameRow)) → nth_from 0 (stays_of blocks file) name n ≡ found
    → option_map (λ (f : ℕ × GameRow). f.0) found ≡ Some stay → IsFound blocks file name n stay
by_found blocks file name n stay None is number = absurd cc
by_found blocks file name n stay (Some found) is number =
    let there = stands 0 (stays_of blocks file) name n found is in
    let same : found.0 ≡ stay = cc in
    let at : there.at ≡ stay = omega (arith, there.place, same) in
    record { within = omega (arith, there.within, at); named = ap (λ i. is_same_text name (row_at (stays_of blocks file) i).game) (sym at) ∙ there.named }

pub found_law : FoundLaw
found_law blocks file name n stay is = by_found blocks file name n stay (nth_from 0 (stays_of blocks file) name n) refl is

-- One row less to search: it is not the stay, or it is.

pub passed_by : (first : ℕ) (row : GameRow) (rows : List GameRow) (name : List ℕ) (n left : ℕ) → (is_same_text name row.game && nat_eq n 1) ≡ false
    → left ≡ (if is_same_text name row.game then n - 1 else n) → nth_from first (row ∷ rows) name n ≡ nth_from (first + 1) rows name left
passed_by first row rows name n left other is = elim (cases_Bool (is_same_text name row.game)) [
  | inl same ↦
      let more : nat_eq n 1 ≡ false = rw same at other in
      let few : left ≡ n - 1 = rw same at is in
      rw (same, more) (ap (nth_from (first + 1) rows name) (sym few))
  | inr not_same ↦
      let few : left ≡ n = rw not_same at is in
      rw not_same (ap (nth_from (first + 1) rows name) (sym few))
]

pub found_first : (first : ℕ) (row : GameRow) (rows : List GameRow) (name : List ℕ) (n : ℕ) → (is_same_text name row.game && nat_eq n 1) ≡ true
    → nth_from first (row ∷ rows) name n ≡ Some (first, row)
found_first first row rows name n both =
    let parts = and_parts (is_same_text name row.game) (nat_eq n 1) both in
    rw (parts.0, parts.1) refl
