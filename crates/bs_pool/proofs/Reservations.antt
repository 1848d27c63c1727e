-- The reservations of each tag after one is made or ended.
use Rattle.std.proofs.Common.{◌≡◌, ◌≢◌, ℕ, zero, suc, slice_index_or, ◌+◌, ◌-◌, ◌<◌, ◌≤◌, true, false, List, [], ◌∷◌, ◌++◌, length, None, IsSome, refl, sym, ◌∙◌, arith, inl, inr}
use Rattle.std.specs.Prelude.{nat_eq, find, AllPairs}
use Rattle.std.proofs.lemmas.Bool.{cases_Bool, cases_eq, eq-eqb, ne_eqb, eqb-false}
use Rattle.std.proofs.lemmas.List.Sums.{sum_by-cons, sum_by_push}
use Rattle.bs_pool.specs.declared.reservation.Reservation.{Reservation}
use Rattle.bs_pool.specs.Reservations.{is_of, reserved_by, all_reserved, without}
use Rattle.bs_pool.specs.inner.Reservations.{is_reserved}
use Rattle.bs_pool.specs.Ledger.{Ledger, unreserved, with_reservation}

-- the test for a reservation, as the contracts state it
pub none_since : (tag : ℕ) (rs : List Reservation) → is_reserved tag rs ≡ false → find (is_of tag) rs ≡ None
none_since tag [] none = refl
none_since tag (r ∷ rs) none = elim (cases_Bool (nat_eq r.tag tag)) [
  | inl same ↦ let e = rw same at none in cc
  | inr differ ↦ let e = rw differ at none in rw differ (none_since tag rs e)
]

pub some_since : (tag : ℕ) (rs : List Reservation) → is_reserved tag rs ≡ true → IsSome (find (is_of tag) rs)
some_since tag [] some = cc
some_since tag (r ∷ rs) some = elim (cases_Bool (nat_eq r.tag tag)) [
  | inl same ↦ rw same refl
  | inr differ ↦ let e = rw differ at some in rw differ (some_since tag rs e)
]

-- a tag with blocks to own has a reservation
pub reserved_some : (tag : ℕ) (rs : List Reservation) → 0 < reserved_by tag rs → IsSome (find (is_of tag) rs)
reserved_some tag [] some = absurd (omega arith)
reserved_some tag (r ∷ rs) some = elim (cases_Bool (nat_eq r.tag tag)) [
  | inl same ↦ rw same refl
  | inr differ ↦ let e = rw differ at some in rw differ (reserved_some tag rs e)
]

pub reserved_none : (tag : ℕ) (rs : List Reservation) → find (is_of tag) rs ≡ None → reserved_by tag rs ≡ 0
reserved_none tag rs none = rw none refl

pub other_tags : (tag : ℕ) (rs : List Reservation) → find (is_of tag) rs ≡ None
    → (k : ℕ) (d : Reservation) → k < length rs → (slice_index_or rs k d).tag ≢ tag
other_tags tag [] none k d within = absurd (omega arith)
other_tags tag (r ∷ rs) none k d within = elim (cases_Bool (nat_eq r.tag tag)) [
  | inl same ↦ let e = rw same at none in cc
  | inr differ ↦ let e = rw differ at none in elim k as (λ j. j < length (r ∷ rs) → (slice_index_or (r ∷ rs) j d).tag ≢ tag) [
    | zero ↦ λ _. eqb-false r.tag tag differ
    | suc j ↦ λ less. other_tags tag rs e j d (omega arith)
  ] within
]

-- one more reservation
pub reserved_pushed : (tag n : ℕ) (rs : List Reservation) → find (is_of tag) rs ≡ None
    → reserved_by tag (rs ++ record { tag = tag; blocks = n } ∷ []) ≡ n
reserved_pushed tag n [] none = rw (eq-eqb tag tag refl) refl
reserved_pushed tag n (r ∷ rs) none = elim (cases_Bool (nat_eq r.tag tag)) [
  | inl same ↦ let e = rw same at none in cc
  | inr differ ↦ let e = rw differ at none in rw differ (reserved_pushed tag n rs e)
]

pub reserved_pushed_other : (tag n other : ℕ) (rs : List Reservation) → tag ≢ other
    → reserved_by other (rs ++ record { tag = tag; blocks = n } ∷ []) ≡ reserved_by other rs
reserved_pushed_other tag n other [] apart = rw (ne_eqb tag other apart) refl
reserved_pushed_other tag n other (r ∷ rs) apart = elim (cases_Bool (nat_eq r.tag other)) [
  | inl same ↦ rw same refl
  | inr differ ↦ rw differ (reserved_pushed_other tag n other rs apart)
]

pub all_reserved_pushed : (tag n : ℕ) (rs : List Reservation) → all_reserved (rs ++ record { tag = tag; blocks = n } ∷ []) ≡ all_reserved rs + n
all_reserved_pushed tag n rs = sum_by_push (λ r. r.blocks) rs (record { tag = tag; blocks = n })

pub unreserved_pushed : (tag n : ℕ) (pool : Ledger) → unreserved (with_reservation tag n pool) ≡ unreserved pool - n
unreserved_pushed tag n pool = let e = all_reserved_pushed tag n pool.reservations in omega (arith, e)

pub reserved_without_other : (tag other : ℕ) (rs : List Reservation) → tag ≢ other → reserved_by other (without tag rs) ≡ reserved_by other rs
reserved_without_other tag other [] apart = refl
reserved_without_other tag other (r ∷ rs) apart = elim (cases_eq r.tag tag) [
  | inl same ↦
      let not_other : nat_eq r.tag other ≡ false = ne_eqb r.tag other (λ is. apart (sym same ∙ is)) in
      rw (eq-eqb r.tag tag same, not_other) (reserved_without_other tag other rs apart)
  | inr differ ↦ elim (cases_Bool (nat_eq r.tag other)) [
    | inl it ↦ rw (ne_eqb r.tag tag differ, it) refl
    | inr more ↦ rw (ne_eqb r.tag tag differ, more) (reserved_without_other tag other rs apart)
  ]
]

pub all_reserved_without : (tag : ℕ) (rs : List Reservation) → all_reserved (without tag rs) ≤ all_reserved rs
all_reserved_without tag [] = omega arith
all_reserved_without tag (r ∷ rs) =
    let sum = sum_by-cons (λ x. x.blocks) r rs in
    let rest = all_reserved_without tag rs in
    elim (cases_Bool (nat_eq r.tag tag)) [
      | inl same ↦ rw same (omega (arith, sum, rest))
      | inr differ ↦ let sum' = sum_by-cons (λ x. x.blocks) r (without tag rs) in rw differ (omega (arith, sum, sum', rest))
    ]

no_tag : (tag : ℕ) (rs : List Reservation) → ((k : ℕ) (d : Reservation) → k < length rs → (slice_index_or rs k d).tag ≢ tag)
    → find (is_of tag) rs ≡ None
no_tag tag [] others = refl
no_tag tag (r ∷ rs) others =
    rw (ne_eqb r.tag tag (others 0 r (omega arith))) (no_tag tag rs (λ k d within. others (suc k) d (omega (arith, within))))

none_removed : (tag : ℕ) (rs : List Reservation) → find (is_of tag) rs ≡ None → all_reserved (without tag rs) ≡ all_reserved rs
none_removed tag [] none = refl
none_removed tag (r ∷ rs) none = elim (cases_Bool (nat_eq r.tag tag)) [
  | inl same ↦ let e = rw same at none in cc
  | inr differ ↦
      let e = rw differ at none in
      let sum = sum_by-cons (λ x. x.blocks) r rs in let sum' = sum_by-cons (λ x. x.blocks) r (without tag rs) in
      rw differ (omega (arith, sum, sum', none_removed tag rs e))
]

-- what a tag reserved can be reserved again
pub all_removed : (tag : ℕ) (rs : List Reservation) → AllPairs (λ r s. r.tag ≢ s.tag) rs
    → all_reserved (without tag rs) + reserved_by tag rs ≡ all_reserved rs
all_removed tag [] distinct = refl
all_removed tag (r ∷ rs) distinct =
    let sum = sum_by-cons (λ x. x.blocks) r rs in
    elim (cases_eq r.tag tag) [
      | inl same ↦
          let none = no_tag tag rs (λ k d within is. distinct 0 (suc k) d (omega arith) (omega (arith, within)) (same ∙ sym is)) in
          rw (eq-eqb r.tag tag same) (omega (arith, sum, none_removed tag rs none))
      | inr differ ↦
          let rest = all_removed tag rs (λ i j d less within. distinct (suc i) (suc j) d (omega (arith, less)) (omega (arith, within))) in
          let sum' = sum_by-cons (λ x. x.blocks) r (without tag rs) in
          rw (ne_eqb r.tag tag differ) (omega (arith, sum, sum', rest))
    ]
