-- What accounts say of reservations and counts, and the accounts after each call.
use Rattle.std.proofs.Common.{◌≡◌, ◌≢◌, ℕ, suc, ◌<◌, ◌≤◌, true, false, List, [], ◌∷◌, ◌++◌, length, Option, Some, None, IsSome, slice_get, slice_set, slice_index_or, refl, sym, ap, ◌∙◌, arith, inl, inr}
use Rattle.std.specs.List.{position_or_len}
use Rattle.std.specs.Prelude.{nat_eq, nat_lt, find, position, count_by, cond, AllPairs, MatchOption}
use Rattle.std.proofs.lemmas.Bool.{cases_Bool, cases_eq, cases_lt, eq-eqb, ne_eqb, eqb-true, lt-ltb}
use Rattle.std.proofs.Math.Seq.{map-set_same}
use Rattle.std.proofs.lemmas.List.{length-map, map-append, get_or-map, get_or-set_same, get_or-set_other}
use Rattle.std.proofs.lemmas.List.Quantifiers.{position-Some}
use Rattle.std.proofs.lemmas.Option.{slice_get-get_or, get_or_from_slice_get}
use Rattle.std.proofs.lemmas.List.Folds.{find_at}
use Rattle.std.proofs.lemmas.List.Sums.{position_or_len_is}
use Rattle.bs_pool.proofs.Positions.{none_passes}
use Rattle.bs_pool.specs.declared.reservation.Account.{Account}
use Rattle.bs_pool.specs.inner.Accounts.{reservations_of, is_account_of, has_account, granted, without_account, counted, AreCounted, AreDistinct, Recounts}
use Rattle.bs_pool.specs.Reservations.{is_of, reserved_by, without}
use Rattle.bs_pool.specs.inner.Reservations.{is_reserved}
use Rattle.bs_pool.specs.Ledger.{is_owned_by}
use Rattle.bs_pool.proofs.Reservations.{none_since, some_since}

pub reserved_in : (tag : ℕ) (accounts : List Account) → granted tag accounts ≡ reserved_by tag (reservations_of accounts)
reserved_in tag [] = refl
reserved_in tag (a ∷ accounts) = elim (cases_Bool (nat_eq a.reservation.tag tag)) [
  | inl same ↦ rw same refl
  | inr differ ↦ rw differ (reserved_in tag accounts)
]

pub is_reserved_in : (tag : ℕ) (accounts : List Account) → has_account tag accounts ≡ is_reserved tag (reservations_of accounts)
is_reserved_in tag [] = refl
is_reserved_in tag (a ∷ accounts) = elim (cases_Bool (nat_eq a.reservation.tag tag)) [
  | inl same ↦ rw same refl
  | inr differ ↦ rw differ (is_reserved_in tag accounts)
]

-- the test for an account, as the contracts state it
pub none_in : (tag : ℕ) (accounts : List Account) → has_account tag accounts ≡ false → find (is_of tag) (reservations_of accounts) ≡ None
none_in tag accounts none = none_since tag (reservations_of accounts) (sym (is_reserved_in tag accounts) ∙ none)

pub some_in : (tag : ℕ) (accounts : List Account) → has_account tag accounts ≡ true → IsSome (find (is_of tag) (reservations_of accounts))
some_in tag accounts some = some_since tag (reservations_of accounts) (sym (is_reserved_in tag accounts) ∙ some)

pub pushed_in : (accounts : List Account) (a : Account) → reservations_of (accounts ++ a ∷ []) ≡ reservations_of accounts ++ a.reservation ∷ []
pushed_in accounts a = map-append (λ x. x.reservation) accounts (a ∷ [])

pub without_in : (tag : ℕ) (accounts : List Account) → reservations_of (without_account tag accounts) ≡ without tag (reservations_of accounts)
without_in tag [] = refl
without_in tag (a ∷ accounts) = elim (cases_Bool (nat_eq a.reservation.tag tag)) [
  | inl same ↦ rw same (without_in tag accounts)
  | inr differ ↦ rw differ (ap (λ rs. a.reservation ∷ rs) (without_in tag accounts))
]

-- an account counts what its tag holds
pub counted_is : (owners : List (Option ℕ)) (tag : ℕ) (accounts : List Account) → AreCounted owners accounts
    → count_by (is_owned_by tag) owners ≤ reserved_by tag (reservations_of accounts) → counted tag accounts ≡ count_by (is_owned_by tag) owners
counted_is owners tag [] are none = omega (arith, none)
counted_is owners tag (a ∷ accounts) are within = elim (cases_Bool (nat_eq a.reservation.tag tag)) [
  | inl same ↦ rw same (are 0 a (omega arith) ∙ ap (λ t. count_by (is_owned_by t) owners) (eqb-true a.reservation.tag tag same))
  | inr differ ↦ rw differ (counted_is owners tag accounts (λ k d less. are (suc k) d (omega (arith, less))) (let e = rw differ at within in e))
]

at_is : (tag : ℕ) (accounts : List Account) (at : ℕ) → position (is_account_of tag) accounts ≡ Some at → position_or_len (is_account_of tag) accounts ≡ at
at_is tag accounts at is = elim (cases_Bool (nat_lt (position_or_len (is_account_of tag) accounts) (length accounts))) [
  | inl some ↦ let e = rw some at is in cc
  | inr none ↦ let e = rw none at is in cc
]

-- the default of a read
abbrev pub no_account : Account
no_account = record { reservation = record { tag = 0; blocks = 0 }; held = 0 }

-- an account of the tag stands at the tag's place, since no tag has two
pub placed : (tag : ℕ) (accounts : List Account) (i : ℕ) (d : Account) → AreDistinct accounts → i < length accounts
    → is_account_of tag (slice_index_or accounts i d) ≡ true → position (is_account_of tag) accounts ≡ Some i
placed tag accounts i d distinct within passes =
    let tag_of : (j : ℕ) → j < length accounts → (slice_index_or (reservations_of accounts) j d.reservation).tag ≡ (slice_index_or accounts j d).reservation.tag = λ j there. ap (λ r. r.tag) (get_or-map (λ a. a.reservation) accounts j d d.reservation there) in
    let its : (slice_index_or accounts i d).reservation.tag ≡ tag = eqb-true _ tag passes in
    let at = position_or_len_is (is_account_of tag) accounts i d (omega (arith, within))
    (λ k lower.
    let differ = distinct k i d.reservation lower (omega (arith, within, length-map accounts (λ a. a.reservation))) in
    ne_eqb _ tag (λ same. differ (tag_of k (omega (arith, within, lower)) ∙ same ∙ sym its ∙ sym (tag_of i within))))
    (λ _. passes) in
    rw (at, lt-ltb i (length accounts) within) refl

found_at : (tag : ℕ) (accounts : List Account) (at : ℕ) (d : Account) → position (is_account_of tag) accounts ≡ Some at
    → find (is_account_of tag) accounts ≡ Some (slice_index_or accounts at d)
found_at tag accounts at d is =
    let within = (position-Some (is_account_of tag) accounts at d is).0 in
    find_at (is_account_of tag) accounts ∙ ap (slice_get accounts) (at_is tag accounts at is) ∙ slice_get-get_or accounts at d within

none_found : (tag : ℕ) (accounts : List Account)
    → ((k : ℕ) (d : Account) → k < length accounts → is_account_of tag (slice_index_or accounts k d) ≡ false) → find (is_account_of tag) accounts ≡ None
none_found tag [] none = refl
none_found tag (a ∷ accounts) none =
    rw (none 0 a (omega arith)) (none_found tag accounts (λ k d less. none (suc k) d (omega (arith, less))))

found_nowhere : (tag : ℕ) (accounts : List Account) → position (is_account_of tag) accounts ≡ None → find (is_account_of tag) accounts ≡ None
found_nowhere tag accounts none = none_found tag accounts (none_passes (is_account_of tag) accounts none)

-- the account at the tag's place is what its numbers are read from
pub counted_at : (tag : ℕ) (accounts : List Account) (at : ℕ) (d : Account) → position (is_account_of tag) accounts ≡ Some at
    → counted tag accounts ≡ (slice_index_or accounts at d).held
counted_at tag accounts at d is = rw (found_at tag accounts at d is) refl

pub granted_at : (tag : ℕ) (accounts : List Account) (at : ℕ) (d : Account) → position (is_account_of tag) accounts ≡ Some at
    → granted tag accounts ≡ (slice_index_or accounts at d).reservation.blocks
granted_at tag accounts at d is = rw (found_at tag accounts at d is) refl

pub counted_nowhere : (tag : ℕ) (accounts : List Account) → position (is_account_of tag) accounts ≡ None → counted tag accounts ≡ 0
counted_nowhere tag accounts none = rw (found_nowhere tag accounts none) refl

pub granted_nowhere : (tag : ℕ) (accounts : List Account) → position (is_account_of tag) accounts ≡ None → granted tag accounts ≡ 0
granted_nowhere tag accounts none = rw (found_nowhere tag accounts none) refl

-- the count of the tag's account is changed in place
pub recounts_at : (change : ℕ → ℕ) (tag : ℕ) (accounts : List Account) (at : ℕ) (d : Account) → position (is_account_of tag) accounts ≡ Some at
    → Recounts change tag accounts (slice_set accounts at (record (slice_index_or accounts at d) { held = change (slice_index_or accounts at d).held }))
recounts_at change tag accounts at d is =
    let within = (position-Some (is_account_of tag) accounts at d is).0 in
    rw is (slice_index_or accounts at d, slice_get-get_or accounts at d within, refl)

module _ (change : ℕ → ℕ) (tag : ℕ) (old new : List Account) (distinct : AllPairs (λ r s. r.tag ≢ s.tag) (reservations_of old)) where
  -- the reservations are unchanged, and only the tag's count is changed
  abbrev Changed : Type 0
  Changed =
      (reservations_of new ≡ reservations_of old)
      × ((k : ℕ) (d : Account) → k < length old
      → (slice_index_or new k d).held ≡ cond (is_account_of tag (slice_index_or old k d)) (change (slice_index_or old k d).held) (slice_index_or old k d).held)

  other_account : (at k : ℕ) (d : Account) → position (is_account_of tag) old ≡ Some at → k < length old → k ≢ at
      → is_account_of tag (slice_index_or old k d) ≡ false
  other_account at k d is less apart =
      let found = position-Some (is_account_of tag) old at d is in
      elim (cases_lt k at) [
        | inl before ↦ found.2 k before
        | inr after ↦
            let past : at < k = omega (arith, after, apart) in
            let differ = distinct at k d.reservation past (omega (arith, less, length-map old (λ a. a.reservation))) in
            let its : (slice_index_or old at d).reservation.tag ≡ tag = eqb-true _ tag found.1 in
            let tag_of : (j : ℕ) → j < length old → (slice_index_or (reservations_of old) j d.reservation).tag ≡ (slice_index_or old j d).reservation.tag = λ j there. ap (λ r. r.tag) (get_or-map (λ a. a.reservation) old j d d.reservation there) in
            ne_eqb _ tag (λ same. differ (tag_of at found.0 ∙ its ∙ sym same ∙ sym (tag_of k less)))
      ]

  by_place : (place : Option ℕ) → position (is_account_of tag) old ≡ place
      → MatchOption place (new ≡ old) (λ at. (a : Account) × (slice_get old at ≡ Some a) × (new ≡ slice_set old at (record a { held = change a.held }))) → Changed
  by_place None is same = (
    ap reservations_of same,
    λ k d less. ap (λ xs. (slice_index_or xs k d).held) same ∙ sym (ap (λ b. cond b (change (slice_index_or old k d).held) (slice_index_or old k d).held) (none_passes (is_account_of tag) old is k d less)),
  )
  by_place (Some at) is (a, here, set) =
      let a' = record a { held = change a.held } in (
        ap reservations_of set ∙ map-set_same (λ x. x.reservation) old at a' a (sym (ap (λ x. x.reservation) (get_or_from_slice_get old at a a here))),
        λ k d less.
            let found = position-Some (is_account_of tag) old at d is in
            let old_at : slice_index_or old at d ≡ a = get_or_from_slice_get old at a d here in
            let its : is_account_of tag a ≡ true = ap (is_account_of tag) (sym old_at) ∙ found.1 in
            elim (cases_eq k at) [
              | inl same ↦
                  let old_k : slice_index_or old k d ≡ a = ap (λ j. slice_index_or old j d) same ∙ old_at in
                  ap (λ xs. (slice_index_or xs k d).held) set ∙ ap (λ j. (slice_index_or (slice_set old at a') j d).held) same ∙ ap (λ x. x.held) (get_or-set_same old at a' d found.0)
                  ∙ sym (ap (λ x. cond (is_account_of tag x) (change x.held) x.held) old_k ∙ ap (λ b. cond b (change a.held) a.held) its)
              | inr apart ↦
                  ap (λ xs. (slice_index_or xs k d).held) set ∙ ap (λ x. x.held) (get_or-set_other old at k a' d apart)
                  ∙ sym (ap (λ b. cond b (change (slice_index_or old k d).held) (slice_index_or old k d).held) (other_account at k d is less apart))
            ],
      )

  pub recounted : Recounts change tag old new → Changed
  recounted = by_place (position (is_account_of tag) old) refl

  -- so the counts are right again, if the owners change for that tag only
  pub counts_again : (owners owners' : List (Option ℕ)) → Recounts change tag old new → AreCounted owners old
      → count_by (is_owned_by tag) owners' ≡ change (count_by (is_owned_by tag) owners)
      → ((other : ℕ) → tag ≢ other → count_by (is_owned_by other) owners' ≡ count_by (is_owned_by other) owners) → AreCounted owners' new
  counts_again owners owners' recounts are mine others = λ k d less.
      let changed = recounted recounts in
      let within : k < length old = omega (arith, less, ap length changed.0, length-map old (λ a. a.reservation), length-map new (λ a. a.reservation)) in
      let reservation : (slice_index_or new k d).reservation ≡ (slice_index_or old k d).reservation =
      sym (get_or-map (λ a. a.reservation) new k d d.reservation less) ∙ ap (λ rs. slice_index_or rs k d.reservation) changed.0 ∙ get_or-map (λ a. a.reservation) old k d d.reservation within in
      let its = (slice_index_or old k d).reservation.tag in let count = λ (os : List (Option ℕ)) (t : ℕ). count_by (is_owned_by t) os in
      changed.1 k d within ∙ elim (cases_Bool (nat_eq its tag)) [
        | inl same ↦
            let tag_is : its ≡ tag = eqb-true its tag same in
            rw same (ap change (are k d within ∙ ap (count owners) tag_is) ∙ sym mine ∙ ap (count owners') (sym tag_is ∙ sym (ap (λ r. r.tag) reservation)))
        | inr differ ↦
            rw differ (are k d within ∙ sym (others its (λ same. let e = eq-eqb its tag (sym same) in cc)) ∙ ap (count owners') (sym (ap (λ r. r.tag) reservation)))
      ]
