-- If each tag owns at most what it reserved, and one tag less than that, some number is free.
use Rattle.std.proofs.Common.{◌≡◌, ◌≢◌, ℕ, ◌+◌, ◌-◌, ◌≤◌, true, false, cond, not, List, [], ◌∷◌, map, Option, Some, None, refl, sym, ap, ◌∙◌, arith, inl, inr}
use Rattle.std.specs.Prelude.{nat_eq, count_by}
use Rattle.std.proofs.lemmas.Bool.{cases_Bool, cases_eq, eq-eqb, ne_eqb}
use Rattle.std.proofs.lemmas.List.Sums.{sum_by-cons}
use Rattle.bs_pool.specs.declared.reservation.Reservation.{Reservation}
use Rattle.bs_pool.specs.Reservations.{reserved_by, all_reserved}
use Rattle.bs_pool.specs.Ledger.{is_unowned, is_owned_by}
use Rattle.bs_pool.proofs.Counts.{count_cons, count_when}
use Rattle.bs_pool.proofs.Owners.{owned}

-- the owners with the numbers of a tag made free
abbrev released : ℕ → List (Option ℕ) → List (Option ℕ)
released tag owners = map (λ o. cond (is_owned_by tag o) None o) owners

owned_released : (tag : ℕ) (owners : List (Option ℕ)) → owned owners ≡ count_by (is_owned_by tag) owners + owned (released tag owners)
owned_released tag [] = refl
owned_released tag (None ∷ owners) =
    let e = count_cons (λ o. not (is_unowned o)) None owners in
    let e' = count_cons (is_owned_by tag) None owners in
    let e'' = count_cons (λ o. not (is_unowned o)) None (released tag owners) in
    omega (arith, e, e', e'', owned_released tag owners)
owned_released tag (Some owner ∷ owners) =
    let e = count_cons (λ o. not (is_unowned o)) (Some owner) owners in
    let rest = owned_released tag owners in
    elim (cases_Bool (nat_eq owner tag)) [
      | inl same ↦
          let one = count_when (is_owned_by tag) (Some owner) owners true same in
          let free = ap (λ b. owned (cond b None (Some owner) ∷ released tag owners)) same in
          let e'' = count_cons (λ o. not (is_unowned o)) None (released tag owners) in
          omega (arith, e, one, free, e'', rest)
      | inr differ ↦
          let none = count_when (is_owned_by tag) (Some owner) owners false differ in
          let e'' = count_cons (λ o. not (is_unowned o)) (Some owner) (released tag owners) in
          rw differ (omega (arith, e, none, e'', rest))
    ]

held_released : (tag : ℕ) (owners : List (Option ℕ)) → count_by (is_owned_by tag) (released tag owners) ≡ 0
held_released tag [] = refl
held_released tag (None ∷ owners) =
    let e = count_cons (is_owned_by tag) None (released tag owners) in
    omega (arith, e, held_released tag owners)
held_released tag (Some owner ∷ owners) =
    elim (cases_Bool (nat_eq owner tag)) [
      | inl same ↦
          let e = count_cons (is_owned_by tag) None (released tag owners) in
          rw same (omega (arith, e, held_released tag owners))
      | inr differ ↦
          let e = count_when (is_owned_by tag) (Some owner) (released tag owners) false differ in
          rw differ (omega (arith, e, held_released tag owners))
    ]

held_released_other : (tag other : ℕ) (owners : List (Option ℕ)) → tag ≢ other
    → count_by (is_owned_by other) (released tag owners) ≡ count_by (is_owned_by other) owners
held_released_other tag other [] apart = refl
held_released_other tag other (None ∷ owners) apart =
    let e = count_cons (is_owned_by other) None owners in
    let e' = count_cons (is_owned_by other) None (released tag owners) in
    omega (arith, e, e', held_released_other tag other owners apart)
held_released_other tag other (Some owner ∷ owners) apart =
    let rest = held_released_other tag other owners apart in
    elim (cases_eq owner tag) [
      | inl same ↦
          let e' = count_cons (is_owned_by other) None (released tag owners) in
          let none : nat_eq owner other ≡ false = ne_eqb owner other (λ is. apart (sym same ∙ is)) in
          let e'' = count_when (is_owned_by other) (Some owner) owners false none in
          rw (eq-eqb owner tag same) (omega (arith, e', e'', rest))
      | inr differ ↦
          let e = count_cons (is_owned_by other) (Some owner) owners in
          let e' = count_cons (is_owned_by other) (Some owner) (released tag owners) in
          rw (ne_eqb owner tag differ) (omega (arith, e, e', rest))
    ]

none_owned : (owners : List (Option ℕ)) → ((tag : ℕ) → count_by (is_owned_by tag) owners ≤ 0) → owned owners ≡ 0
none_owned [] none = refl
none_owned (None ∷ owners) none =
    let e = count_cons (λ o. not (is_unowned o)) None owners in
    let rest = none_owned owners (λ tag. let e' = count_cons (is_owned_by tag) None owners in omega (arith, e', none tag)) in
    omega (arith, e, rest)
none_owned (Some owner ∷ owners) none =
    let e = count_when (is_owned_by owner) (Some owner) owners true (eq-eqb owner owner refl) in
    absurd (omega (arith, e, none owner))

-- at least as many numbers are free as one tag may still draw
pub left_free : (rs : List Reservation) (owners : List (Option ℕ)) (tag : ℕ)
    → ((other : ℕ) → count_by (is_owned_by other) owners ≤ reserved_by other rs)
    → owned owners + (reserved_by tag rs - count_by (is_owned_by tag) owners) ≤ all_reserved rs
left_free [] owners tag kept = let none = none_owned owners kept in omega (arith, none)
left_free (r ∷ rs) owners tag kept =
    let parts = owned_released r.tag owners in
    let sum = sum_by-cons (λ x. x.blocks) r rs in
    let mine : count_by (is_owned_by r.tag) owners ≤ r.blocks = rw (eq-eqb r.tag r.tag refl) at (kept r.tag) in
    let kept' : (other : ℕ) → count_by (is_owned_by other) (released r.tag owners) ≤ reserved_by other rs =
    λ other. elim (cases_eq r.tag other) [
      | inl same ↦ let zero = held_released r.tag owners in rw (← same) (omega (arith, zero))
      | inr differ ↦
          let e = held_released_other r.tag other owners differ in
          let k = rw (ne_eqb r.tag other differ) at (kept other) in
          omega (arith, e, k)
    ] in
    let rest = left_free rs (released r.tag owners) tag kept' in
    elim (cases_eq r.tag tag) [
      | inl same ↦
          rw (eq-eqb r.tag tag same, ← same) (omega (arith, parts, sum, mine, rest))
      | inr differ ↦
          let e = held_released_other r.tag tag owners differ in
          rw (ne_eqb r.tag tag differ) (omega (arith, parts, sum, mine, rest, e))
    ]
