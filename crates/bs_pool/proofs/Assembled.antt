-- A pool that is put together keeps its invariants as pools are laid into it.
use Rattle.std.proofs.Common.{◌≡◌, ℕ, zero, suc, ◌+◌, ◌-◌, ◌<◌, ◌≤◌, ◌^◌, List, [], ◌∷◌, ◌++◌, length, map, replicate, slice_index_or, Option, None, IsSome, refl, sym, ap, subst, ◌∙◌, arith, inl, inr}
use Rattle.std.specs.Prelude.{nat_eq, count_by, find, All}
use Rattle.std.specs.List.{range_with_len}
use Rattle.std.proofs.lemmas.List.FromFn.{length-range_with_len}
use Rattle.std.proofs.lemmas.Bool.{cases_Bool, cases_lt, eq-eqb}
use Rattle.std.proofs.lemmas.List.{map-append, length-append, length-map, get_or-map}
use Rattle.std.proofs.lemmas.List.Elements.{All-append, All-map}
use Rattle.std.proofs.lemmas.List.Sums.{sum_by-append}
use Rattle.bs_pool.specs.Assembly.{Assembled, raised, raised_reservation, laid, AreNew}
use Rattle.bs_pool.specs.declared.reservation.Account.{Account}
use Rattle.bs_pool.specs.declared.reservation.Reservation.{Reservation}
use Rattle.bs_pool.specs.Ledger.{Ledger, IsSound, size, is_unowned, is_owned_by, opened, ledger_of}
use Rattle.bs_pool.specs.Reservations.{is_of, all_reserved}
use Rattle.bs_pool.specs.Woven.{woven, place_in, ArePlaces}
use Rattle.bs_pool.specs.inner.Accounts.{reservations_of, raised_account, AreCounted}
use Rattle.bs_pool.specs.inner.AssemblyParts.{missing_in, assembled_in, AreAssembled}
use Rattle.bs_pool.specs.inner.FreeNumbers.{AreFree, number_from, still_free}
use Rattle.bs_pool.specs.inner.PoolParts.{ledger_in}
use Rattle.bs_pool.proofs.Counts.{count_cons}
use Rattle.bs_pool.proofs.FreeNumbers.{from_low, from_next, from_more, place_below, left_are_free}
use Rattle.bs_pool.proofs.Soundness.{sound_opened}
use Rattle.bs_pool.proofs.Woven.{size_woven}
use Rattle.bs_pool.proofs.WovenCounts.{free_woven, all_raised, held_before, held_new, kept_woven, distinct_raised, TagsNew}

-- before a pool is laid
free_opened : (n : ℕ) → count_by is_unowned (replicate n None) ≡ n
free_opened zero = refl
free_opened (suc n) = omega (arith, count_cons is_unowned None (replicate n None), free_opened n)

place_opened : (n k : ℕ) → k ≡ place_in (replicate n None) k
place_opened zero k = refl
place_opened (suc n) zero = refl
place_opened (suc n) (suc k) = ap suc (place_opened n k)

length_opened : (n : ℕ) → length (replicate {A = Option ℕ} n None) ≡ n
length_opened zero = refl
length_opened (suc n) = ap suc (length_opened n)

pub begins : (owners : List (Option ℕ)) (n blocks : ℕ) → owners ≡ replicate n None → blocks ≤ n
    → AreAssembled owners [] blocks [] 0 × (assembled_in owners [] blocks ≡ record { ledger = opened n; missing = n - blocks })
begins owners n blocks is few =
    rw is (
      record {
        sound = sound_opened n;
        counts = λ k d h. absurd (omega (arith, h));
        fits = omega (arith, free_opened n, few);
        unreserved = omega (arith, free_opened n, length_opened n, few);
        free = λ k. let e = place_opened n k in omega (arith, e);
        few = omega arith;
      },
      (λ i. record { ledger = opened n; missing = free_opened n i - blocks }),
    )

-- the numbers that a pool of m numbers is laid into
module _ (owners : List (Option ℕ)) (low : List ℕ) (next : ℕ) (free : AreFree owners low next) where
  pub next_small : (m : ℕ) → m ≤ count_by is_unowned owners → next ≤ length owners → next + (m - length low) ≤ length owners
  next_small m room few = elim (cases_lt (length low) m) [
    | inl less ↦
        let last = m - 1 - length low in
        let at : number_from low next (m - 1) ≡ next + last = from_next low next last (m - 1) (omega (arith, less)) in
        let below = place_below owners (m - 1) (omega (arith, less, room)) in
        omega (arith, less, at, below, free (m - 1))
    | inr enough ↦ omega (arith, enough, few)
  ]

  pub are_places : (m : ℕ) → m ≤ length low → ArePlaces owners m low
  are_places m enough = record {
    enough = enough;
    each = λ k d within. from_low low next k d within ∙ free k;
  }

some_at : (rs : List Reservation) (k : ℕ) (d : Reservation) → k < length rs → IsSome (find (is_of (slice_index_or rs k d).tag) rs)
some_at [] k d within = absurd (omega (arith, within))
some_at (r ∷ rs) zero d within = rw (eq-eqb r.tag r.tag refl) refl
some_at (r ∷ rs) (suc k) d within = elim (cases_Bool (nat_eq r.tag (slice_index_or rs k d).tag)) [
  | inl same ↦ rw same refl
  | inr differ ↦ rw differ (some_at rs k d (omega (arith, within)))
]

reservations_raised : (offset : ℕ) (accounts : List Account) → reservations_of (map (raised_account offset) accounts) ≡ map (raised_reservation offset) (reservations_of accounts)
reservations_raised offset [] = refl
reservations_raised offset (a ∷ accounts) = ap (λ rs. raised_reservation offset a.reservation ∷ rs) (reservations_raised offset accounts)

pub reservations_laid : (offset : ℕ) (mine more : List Account) → reservations_of (mine ++ map (raised_account offset) more) ≡ reservations_of mine ++ map (raised_reservation offset) (reservations_of more)
reservations_laid offset mine more =
    map-append (λ a. a.reservation) mine (map (raised_account offset) more) ∙ ap (λ rs. reservations_of mine ++ rs) (reservations_raised offset more)

-- a pool is laid
module _ (offset : ℕ) (owners group : List (Option ℕ)) (mine more : List Account) (blocks : ℕ) (low : List ℕ) (next : ℕ) (ok : AreAssembled owners mine blocks low next)
    (sound : IsSound (ledger_in group more)) (counts : AreCounted group more) (room : length group ≤ missing_in owners blocks)
    (new : TagsNew offset (reservations_of mine) (reservations_of more)) where
  abbrev owners' : List (Option ℕ)
  owners' = woven (raised offset) owners group

  abbrev accounts' : List Account
  accounts' = mine ++ map (raised_account offset) more

  enough : length group ≤ count_by is_unowned owners
  enough = omega (arith, room)

  free' : count_by is_unowned owners' + length group ≡ count_by is_unowned owners + count_by is_unowned group
  free' = free_woven (raised offset) owners group enough

  missing' : missing_in owners' (blocks + count_by is_unowned group) ≡ missing_in owners blocks - length group
  missing' = omega (arith, free', room)

  all' : all_reserved (reservations_of accounts') ≡ all_reserved (reservations_of mine) + all_reserved (reservations_of more)
  all' = ap all_reserved (reservations_laid offset mine more)
      ∙ sum_by-append (λ (r : Reservation). r.blocks) (reservations_of mine) (map (raised_reservation offset) (reservations_of more))
      ∙ ap (λ n. all_reserved (reservations_of mine) + n) (all_raised offset (reservations_of more))

  unreserved' : all_reserved (reservations_of accounts') + missing_in owners' (blocks + count_by is_unowned group) ≤ length owners'
  unreserved' = omega (arith, all', missing', size_woven (raised offset) owners group enough, ok.unreserved, sound.within, room)

  sound' : IsSound (ledger_of owners' (reservations_of mine ++ map (raised_reservation offset) (reservations_of more)))
  sound' = record {
    within = let e = ap all_reserved (reservations_laid offset mine more) in omega (arith, unreserved', e);
    distinct = distinct_raised offset (reservations_of mine) (reservations_of more) new ok.sound.distinct sound.distinct;
    kept = kept_woven offset owners group (reservations_of mine) (reservations_of more) new ok.sound.kept sound.kept;
  }

  counts' : AreCounted owners' accounts'
  counts' =
      let P : Account → Type 0 = λ a. a.held ≡ count_by (is_owned_by a.reservation.tag) owners' in
      let rs = reservations_of mine in let qs = reservations_of more in
      All-append P mine (map (raised_account offset) more)
      (λ k d h.
      let a = slice_index_or mine k d in
      let at : slice_index_or rs k d.reservation ≡ a.reservation = get_or-map (λ (b : Account). b.reservation) mine k d d.reservation h in
      let some : IsSome (find (is_of a.reservation.tag) rs) = subst (λ (r : Reservation). IsSome (find (is_of r.tag) rs)) at (some_at rs k d.reservation (omega (arith, h, length-map mine (λ (b : Account). b.reservation)))) in
      ok.counts k d h ∙ sym (held_before offset owners group rs qs new ok.sound.kept sound.kept a.reservation.tag some))
      (All-map P (raised_account offset) more (λ k d h.
      let a = slice_index_or more k d in
      let at : slice_index_or qs k d.reservation ≡ a.reservation = get_or-map (λ (b : Account). b.reservation) more k d d.reservation h in
      let none : find (is_of (a.reservation.tag + offset)) rs ≡ None = subst (λ (r : Reservation). find (is_of (r.tag + offset)) rs ≡ None) at (new k d.reservation (omega (arith, h, length-map more (λ (b : Account). b.reservation)))) in
      counts k d h ∙ sym (held_new offset owners group rs qs new ok.sound.kept sound.kept a.reservation.tag none)))

  pub lays : (low' : List ℕ) (next' : ℕ) → AreFree owners' low' next' → next' ≤ length owners → AreAssembled owners' accounts' (blocks + count_by is_unowned group) low' next'
  lays low' next' free few = record {
    sound = subst (λ rs. IsSound (ledger_of owners' rs)) (sym (reservations_laid offset mine more)) sound';
    counts = counts';
    fits = omega (arith, free', room, ok.fits);
    unreserved = unreserved';
    free = free;
    few = omega (arith, few, size_woven (raised offset) owners group enough);
  }

  pub lays_is : assembled_in owners' accounts' (blocks + count_by is_unowned group) ≡ laid offset (ledger_in group more) (assembled_in owners mine blocks)
  lays_is = (λ i. record { ledger = ledger_of owners' (reservations_laid offset mine more i); missing = missing' i })

  -- the parts after a pool is laid, as the calls return them
  pub laid_parts : (owners2 : List (Option ℕ)) (accounts2 : List Account) (blocks2 : ℕ) (low1 low2 : List ℕ) (next1 : ℕ) → owners2 ≡ owners' → accounts2 ≡ accounts'
      → blocks2 ≡ blocks + count_by is_unowned group → low2 ≡ still_free low1 group → AreFree owners low1 next1 → length group ≤ length low1 → next1 ≤ length owners
      → AreAssembled owners2 accounts2 blocks2 low2 next1 × (assembled_in owners2 accounts2 blocks2 ≡ laid offset (ledger_in group more) (assembled_in owners mine blocks))
  laid_parts owners2 accounts2 blocks2 low1 low2 next1 o a b l free enough' few =
      let base = lays (still_free low1 group) next1 (left_are_free (raised offset) owners group low1 next1 free enough') few in (
        subst (λ os. AreAssembled os accounts2 blocks2 low2 next1) (sym o)
            (subst (λ xs. AreAssembled owners' xs blocks2 low2 next1) (sym a)
            (subst (λ n. AreAssembled owners' accounts' n low2 next1) (sym b)
            (subst (λ ns. AreAssembled owners' accounts' (blocks + count_by is_unowned group) ns next1) (sym l) base))),
        (λ i. assembled_in (o i) (a i) (b i)) ∙ lays_is,
      )

-- what the caller of `lay` knows, of the parts
module _ (offset : ℕ) (owners group : List (Option ℕ)) (mine more : List Account) (blocks : ℕ) (pool : Ledger) (a : Assembled)
    (ledger : ledger_in group more ≡ pool) (view : assembled_in owners mine blocks ≡ a) where
  abbrev Known : Ledger → Assembled → Type 0
  Known p b = (size p ≤ b.missing) × AreNew offset p b.ledger × IsSound p

  pub record IsKnown : Type 0 where
    pub room : length group ≤ missing_in owners blocks
    pub fits : All (λ r. r.tag + offset < 2 ^ 32) (reservations_of more)
    pub new : TagsNew offset (reservations_of mine) (reservations_of more)
    pub sound : IsSound (ledger_in group more)

  pub known : size pool ≤ a.missing → AreNew offset pool a.ledger → IsSound pool → IsKnown
  known room new sound =
      let all = subst (λ b. Known (ledger_in group more) b) (sym view) (subst (λ p. Known p a) (sym ledger) (room, new, sound)) in
      record {
        room = all.0;
        fits = λ k d h. (all.1 k d h).0;
        new = λ k d h. (all.1 k d h).1;
        sound = all.2;
      }

pub accounts_fit : (offset : ℕ) (accounts : List Account) → All (λ r. r.tag + offset < 2 ^ 32) (reservations_of accounts) → All (λ a. a.reservation.tag + offset < 2 ^ 32) accounts
accounts_fit offset accounts fits = λ k d h.
    subst (λ (r : Reservation). r.tag + offset < 2 ^ 32) (get_or-map (λ (b : Account). b.reservation) accounts k d d.reservation h)
    (fits k d.reservation (omega (arith, h, length-map accounts (λ (b : Account). b.reservation))))

-- the list of free numbers, once it is long enough
pub more_free : (owners : List (Option ℕ)) (low low' : List ℕ) (next more : ℕ) → AreFree owners low next → low' ≡ low ++ range_with_len next more → AreFree owners low' (next + more)
more_free owners low low' next more free is n =
    ap (λ xs. number_from xs (next + more) n) is ∙ from_more low next more n ∙ free n

pub more_long : (low low' : List ℕ) (next more : ℕ) → low' ≡ low ++ range_with_len next more → length low' ≡ length low + more
more_long low low' next more is =
    ap length is ∙ length-append low (range_with_len next more) ∙ ap (λ n. length low + n) (length-range_with_len next more)
