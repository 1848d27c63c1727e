-- Each call of a pool keeps it sound, and a sound pool has a free number for each tag that may
-- still draw.
use Rattle.std.proofs.Common.{◌≡◌, ◌≢◌, ℕ, zero, suc, ◌-◌, ◌<◌, ◌≤◌, Bool, false, not, List, [], ◌∷◌, ◌++◌, length, replicate, Option, Some, None, IsSome, slice_set, refl, arith, inl, inr}
use Rattle.std.specs.Prelude.{count_by, position}
use Rattle.std.specs.List.{position_or_len}
use Rattle.std.proofs.lemmas.Bool.{cases_Bool, cases_eq, lt-ltb}
use Rattle.std.proofs.lemmas.List.Quantifiers.{all_pairs_push}
use Rattle.std.proofs.lemmas.List.Kept.{AllPairs-filter}
use Rattle.bs_pool.specs.declared.reservation.Reservation.{Reservation}
use Rattle.bs_pool.specs.Reservations.{is_of, reserved_by, all_reserved, without}
use Rattle.bs_pool.specs.inner.Reservations.{is_reserved}
use Rattle.bs_pool.specs.Ledger.{Ledger, IsSound, Owns, given, is_unowned, is_owned_by, free, held, reserved, least_free, opened, ledger_of}
use Rattle.bs_pool.proofs.Counts.{count_cons, count_when}
use Rattle.bs_pool.proofs.Owners.{all_numbers, held_drawn, held_drawn_other, size_drawn, held_given, held_given_other, size_given}
use Rattle.bs_pool.proofs.Pigeonhole.{left_free}
use Rattle.bs_pool.proofs.Reservations.{none_since, other_tags, reserved_none, reserved_pushed, reserved_pushed_other, all_reserved_pushed, reserved_without_other, all_reserved_without}

first_within : {X : Type 0} (p : X → Bool) (xs : List X) → 0 < count_by p xs → position_or_len p xs < length xs
first_within p [] some = absurd (omega arith)
first_within p (x ∷ xs) some = elim (cases_Bool (p x)) [
  | inl here ↦ rw here (omega arith)
  | inr later ↦
      let rest = first_within p xs (let e = count_when p x xs false later in omega (arith, e)) in
      rw later (omega (arith, rest))
]

pub first_some : {X : Type 0} (p : X → Bool) (xs : List X) → 0 < count_by p xs → IsSome (position p xs)
first_some p xs some = rw (lt-ltb _ _ (first_within p xs some)) refl

-- a tag that holds less than it reserved finds a free number
pub some_free : (pool : Ledger) (tag : ℕ) → IsSound pool → held tag pool < reserved tag pool → IsSome (least_free pool)
some_free pool tag sound less =
    let left = left_free pool.reservations pool.owners tag sound.kept in
    let all = all_numbers pool in
    first_some is_unowned pool.owners (omega (arith, left, all, sound.within))

-- no tag holds a number in a new pool
pub held_opened : (tag n : ℕ) → held tag (opened n) ≡ 0
held_opened tag zero = refl
held_opened tag (suc n) = let e = count_cons (is_owned_by tag) None (replicate n None) in omega (arith, e, held_opened tag n)

pub sound_opened : (n : ℕ) → IsSound (opened n)
sound_opened n = record {
  within = omega arith;
  distinct = λ i j d less within. absurd (omega arith);
  kept = λ tag. let e = held_opened tag n in omega (arith, e);
}

pub sound_drawn : (owners owners' : List (Option ℕ)) (rs : List Reservation) (tag n : ℕ) → IsSound (ledger_of owners rs)
    → count_by (is_owned_by tag) owners < reserved_by tag rs → position is_unowned owners ≡ Some n → owners' ≡ slice_set owners n (Some tag)
    → IsSound (ledger_of owners' rs)
sound_drawn owners owners' rs tag n sound less at is = let pool = ledger_of owners rs in rw is (record {
  within = let e = size_drawn pool tag n in omega (arith, e, sound.within);
  distinct = sound.distinct;
  kept = λ other. elim (cases_eq tag other) [
    | inl same ↦ let e = held_drawn pool tag n at in rw (← same) (omega (arith, e, less))
    | inr differ ↦ let e = held_drawn_other pool tag n other at differ in omega (arith, e, sound.kept other)
  ];
})

pub sound_given : (pool : Ledger) (tag n : ℕ) → IsSound pool → Owns tag n pool → IsSound (given n pool)
sound_given pool tag n sound owns = record {
  within = let e = size_given pool n in omega (arith, e, sound.within);
  distinct = sound.distinct;
  kept = λ other. elim (cases_eq tag other) [
    | inl same ↦ let e = held_given pool tag n owns in rw (← same) (omega (arith, e, sound.kept tag))
    | inr differ ↦ let e = held_given_other pool tag n other owns differ in omega (arith, e, sound.kept other)
  ];
}

pub sound_pushed : (owners : List (Option ℕ)) (rs rs' : List Reservation) (tag n : ℕ) → IsSound (ledger_of owners rs)
    → is_reserved tag rs ≡ false → n ≤ length owners - all_reserved rs → rs' ≡ rs ++ record { tag = tag; blocks = n } ∷ []
    → IsSound (ledger_of owners rs')
sound_pushed owners rs rs' tag n sound free fits is = let none = none_since tag rs free in rw is (record {
  within = let e = all_reserved_pushed tag n rs in omega (arith, e, sound.within, fits);
  distinct = all_pairs_push (λ r s. r.tag ≢ s.tag) rs (record { tag = tag; blocks = n }) sound.distinct (other_tags tag rs none);
  kept = λ other. elim (cases_eq tag other) [
    | inl same ↦
        let e = reserved_pushed tag n rs none in
        let e' = reserved_none tag rs none in
        rw (← same) (omega (arith, e, e', sound.kept tag))
    | inr differ ↦ let e = reserved_pushed_other tag n other rs differ in omega (arith, e, sound.kept other)
  ];
})

pub sound_withdrawn : (owners : List (Option ℕ)) (rs rs' : List Reservation) (tag : ℕ) → IsSound (ledger_of owners rs)
    → count_by (is_owned_by tag) owners ≡ 0 → rs' ≡ without tag rs → IsSound (ledger_of owners rs')
sound_withdrawn owners rs rs' tag sound idle is = rw is (record {
  within = let e = all_reserved_without tag rs in omega (arith, e, sound.within);
  distinct = AllPairs-filter (λ r s. r.tag ≢ s.tag) (λ r. not (is_of tag r)) rs sound.distinct;
  kept = λ other. elim (cases_eq tag other) [
    | inl same ↦ rw (← same) (omega (arith, idle))
    | inr differ ↦ let e = reserved_without_other tag other rs differ in omega (arith, e, sound.kept other)
  ];
})
