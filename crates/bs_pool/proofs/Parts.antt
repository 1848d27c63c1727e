-- Each call keeps the invariants of a pool's parts, and the first mark is the least free number.
use Rattle.std.proofs.Common.{◌≡◌, ℕ, ◌+◌, ◌-◌, ◌*◌, ◌/◌, ◌<◌, ◌≤◌, ◌^◌, Bool, true, false, List, [], ◌∷◌, ◌++◌, length, take, drop, Option, Some, None, IsSome, slice_set, refl, sym, ap, ◌∙◌, arith, inl, inr, take_at, subst, not}
use Rattle.std.specs.List.{position_or_len}
use Rattle.std.specs.Prelude.{cond, nat_lt, count_by}
use Rattle.std.proofs.lemmas.Bool.{cases_Bool, cases_eq, cases_lt, lt-ltb, ltb-true}
use Rattle.std.proofs.lemmas.List.{length-set, length-map, map-append, get_or-set_same, get_or-set_other, get_or_past}
use Rattle.std.proofs.lemmas.List.Elements.{All-push, All-filter}
use Rattle.std.proofs.lemmas.List.Sums.{position_or_len_is, passes_at_first}
use Rattle.std.proofs.lemmas.Option.{slice_get_within}
use Rattle.bs_pool.specs.declared.reservation.Account.{Account}
use Rattle.bs_pool.specs.declared.reservation.Reservation.{Reservation}
use Rattle.bs_pool.specs.inner.Accounts.{reservations_of, is_account_of, has_account, granted, without_account, counted, Recounts}
use Rattle.bs_pool.specs.Ledger.{Ledger, Owns, is_unowned, is_owned_by, held, reserved, least_free}
use Rattle.bs_pool.specs.inner.Marks.{mark_of, IsFirstMark, FindsMark, SetsMark, MarksFree, is_free_at}
use Rattle.bs_pool.specs.inner.PoolParts.{ledger_in, AreParts}
use Rattle.bs_pool.specs.Reservations.{all_reserved}
use Rattle.bs_pool.specs.inner.Reservations.{is_reserved}
use Rattle.bs_pool.proofs.Accounts.{counted_is, counts_again, recounted, reserved_in, is_reserved_in, without_in}
use Rattle.bs_pool.proofs.Owners.{free_at, held_drawn, held_drawn_other, held_given, held_given_other}
use Rattle.bs_pool.proofs.Reservations.{none_since, reserved_none}
use Rattle.bs_pool.proofs.Soundness.{some_free, sound_drawn, sound_given, sound_pushed, sound_withdrawn}

-- a list that was lent whole, as the vector shows it after the loan
pub lent_whole : {X : Type 0} (new old : List X) (n : ℕ) → length new ≡ n → take n (new ++ drop (length new) old) ≡ new
lent_whole new old n long = take_at new (drop (length new) old) n long

pub lent_unchanged : {X : Type 0} (new old : List X) (n : ℕ) → n ≡ length old → new ≡ old → take n (new ++ drop (length new) old) ≡ old
lent_unchanged new old n long same = lent_whole new old n (ap length same ∙ sym long) ∙ same

-- the mark of one number is set or cleared
marks_set : (words new : List ℕ) (owners : List (Option ℕ)) (n b : ℕ) (owner : Option ℕ) → MarksFree words owners → n < length owners
    → SetsMark words n b new → b ≡ cond (is_unowned owner) 1 0 → MarksFree new (slice_set owners n owner)
marks_set words new owners n b owner ok within set is = record {
  enough = set.0 ∙ ok.enough ∙ ap (λ k. (k + 63) / 64) (sym (length-set owners n owner));
  marks = λ i. elim (cases_eq i n) [
    | inl same ↦
        ap (mark_of new) same ∙ set.1 ∙ is ∙ ap (λ o. cond (is_unowned o) 1 0) (sym (get_or-set_same owners n owner (Some 0) within))
        ∙ ap (λ k. cond (is_free_at (slice_set owners n owner) k) 1 0) (sym same)
    | inr apart ↦ set.2 i apart ∙ ok.marks i ∙ ap (λ o. cond (is_unowned o) 1 0) (sym (get_or-set_other owners n i owner (Some 0) apart))
  ];
}

free_if_marked : (b : Bool) → ◌≡◌ {A = ℕ} (cond b 1 0) 1 → b ≡ true
free_if_marked true marked = refl
free_if_marked false marked = absurd (omega (arith, marked))

owned_if_not : (b : Bool) → ◌≡◌ {A = ℕ} (cond b 1 0) 0 → b ≡ false
owned_if_not true marked = absurd (omega (arith, marked))
owned_if_not false marked = refl

module _ (owners : List (Option ℕ)) (accounts : List Account) (words : List ℕ) (ok : AreParts owners accounts words) where
  abbrev pool : Ledger
  pool = ledger_in owners accounts

  pub few_words : length owners < 2 ^ 64 → 64 * length words ≤ 2 ^ 64
  few_words less = omega (arith, less, ok.free.enough)

  pub has_word : (n : ℕ) → n < length owners → n / 64 < length words
  has_word n less = omega (arith, less, ok.free.enough)

  pub held_counted : (tag : ℕ) → counted tag accounts ≡ held tag pool
  held_counted tag = counted_is owners tag accounts ok.counts (ok.sound.kept tag)

  -- whether the tag may draw, by its account
  pub room_left : (tag : ℕ) → nat_lt (counted tag accounts) (granted tag accounts) ≡ nat_lt (held tag pool) (reserved tag pool)
  room_left tag = λ i. nat_lt (held_counted tag i) (reserved_in tag accounts i)

  -- the first mark is the least free number
  pub least_marked : (n : ℕ) → IsFirstMark words n → least_free pool ≡ Some n
  least_marked n first =
      let free : is_free_at owners n ≡ true = free_if_marked (is_free_at owners n) (sym (ok.free.marks n) ∙ first.0) in
      let within : n < length owners = elim (cases_lt n (length owners)) [
        | inl less ↦ less
        | inr past ↦ let owned = ap is_unowned (get_or_past owners n (Some 0) past) in cc
      ] in
      let at = position_or_len_is is_unowned owners n (Some 0) (omega (arith, within)) (λ k lower. owned_if_not (is_free_at owners k) (sym (ok.free.marks k) ∙ first.1 k lower)) (λ _. free) in
      rw (at, lt-ltb n (length owners) within) refl

  pub within_size : (n : ℕ) → IsFirstMark words n → n < length owners
  within_size n first = slice_get_within owners n None (free_at owners n (least_marked n first))

  -- a tag that may draw finds a mark
  pub finds_some : (tag : ℕ) (answer : Option ℕ) → held tag pool < reserved tag pool → FindsMark words answer → IsSome answer
  finds_some tag (Some n) less found = refl
  finds_some tag None less found =
      let some = some_free pool tag ok.sound less in
      elim (cases_Bool (nat_lt (position_or_len is_unowned owners) (length owners))) [
        | inl there ↦
            let passes = passes_at_first is_unowned owners (Some 0) (ltb-true _ _ there) in
            let marked = ok.free.marks (position_or_len is_unowned owners) in
            let zero_mark = found (position_or_len is_unowned owners) in
            let one : mark_of words (position_or_len is_unowned owners) ≡ 1 = marked ∙ ap (λ b. cond b 1 0) passes in
            absurd (omega (arith, one, zero_mark))
        | inr none ↦ let e = rw none at some in cc
      ]

  module _ (tag n : ℕ) (words' : List ℕ) (accounts' : List Account) where
    pub drawn_parts : held tag pool < reserved tag pool → IsFirstMark words n → SetsMark words n 0 words' → Recounts (λ k. k + 1) tag accounts accounts'
        → AreParts (slice_set owners n (Some tag)) accounts' words' × (reservations_of accounts' ≡ reservations_of accounts)
    drawn_parts less first set recounts =
        let at = least_marked n first in let same = (recounted (λ k. k + 1) tag accounts accounts' ok.sound.distinct recounts).0 in (
          record {
            sound = rw same (sound_drawn owners _ (reservations_of accounts) tag n ok.sound less at refl);
            counts = counts_again (λ k. k + 1) tag accounts accounts' ok.sound.distinct owners (slice_set owners n (Some tag)) recounts ok.counts
                (held_drawn pool tag n at) (λ other apart. held_drawn_other pool tag n other at apart);
            free = marks_set words words' owners n 0 (Some tag) ok.free (within_size n first) set refl;
          },
          same,
        )

    pub given_parts : Owns tag n pool → SetsMark words n 1 words' → Recounts (λ k. k - 1) tag accounts accounts'
        → AreParts (slice_set owners n None) accounts' words' × (reservations_of accounts' ≡ reservations_of accounts)
    given_parts owns set recounts =
        let same = (recounted (λ k. k - 1) tag accounts accounts' ok.sound.distinct recounts).0 in (
          record {
            sound = rw same (sound_given pool tag n ok.sound owns);
            counts = counts_again (λ k. k - 1) tag accounts accounts' ok.sound.distinct owners (slice_set owners n None) recounts ok.counts
                (let e = held_given pool tag n owns in omega (arith, e)) (λ other apart. held_given_other pool tag n other owns apart);
            free = marks_set words words' owners n 1 None ok.free (slice_get_within owners n (Some tag) owns) set refl;
          },
          same,
        )

    -- the same for lists that were lent
    lent_parts : (owners' : List (Option ℕ)) (some many : ℕ) → some ≡ length accounts → many ≡ length words → length words' ≡ length words
        → AreParts owners' accounts' words' × (reservations_of accounts' ≡ reservations_of accounts)
        → let accounts'' = take some (accounts' ++ drop (length accounts') accounts) in
        AreParts owners' accounts'' (take many (words' ++ drop (length words') words)) × (reservations_of accounts'' ≡ reservations_of accounts)
    lent_parts owners' some many is_some is_many long parts =
        let as_many : length accounts' ≡ some = omega (arith, is_some, ap length parts.1, length-map accounts (λ a. a.reservation), length-map accounts' (λ a. a.reservation)) in
        let these = lent_whole accounts' accounts some as_many in let those = lent_whole words' words many (long ∙ sym is_many) in (
          subst (λ xs. AreParts owners' xs (take many (words' ++ drop (length words') words))) (sym these) (subst (λ ws. AreParts owners' accounts' ws) (sym those) parts.0),
          ap reservations_of these ∙ parts.1,
        )

    pub drawn_lent : (owners' : List (Option ℕ)) (some many : ℕ) → owners' ≡ slice_set owners n (Some tag) → some ≡ length accounts → many ≡ length words
        → held tag pool < reserved tag pool → IsFirstMark words n → SetsMark words n 0 words' → Recounts (λ k. k + 1) tag accounts accounts'
        → let accounts'' = take some (accounts' ++ drop (length accounts') accounts) in
        AreParts owners' accounts'' (take many (words' ++ drop (length words') words)) × (reservations_of accounts'' ≡ reservations_of accounts)
    drawn_lent owners' some many is is_some is_many less first set recounts =
        let parts = drawn_parts less first set recounts in
        lent_parts owners' some many is_some is_many set.0 (subst (λ os. AreParts os accounts' words') (sym is) parts.0, parts.1)

    pub given_lent : (owners' : List (Option ℕ)) (some many : ℕ) → owners' ≡ slice_set owners n None → some ≡ length accounts → many ≡ length words
        → Owns tag n pool → SetsMark words n 1 words' → Recounts (λ k. k - 1) tag accounts accounts'
        → let accounts'' = take some (accounts' ++ drop (length accounts') accounts) in
        AreParts owners' accounts'' (take many (words' ++ drop (length words') words)) × (reservations_of accounts'' ≡ reservations_of accounts)
    given_lent owners' some many is is_some is_many owns set recounts =
        let parts = given_parts owns set recounts in
        lent_parts owners' some many is_some is_many set.0 (subst (λ os. AreParts os accounts' words') (sym is) parts.0, parts.1)

    pub owner_counts : Owns tag n pool → 0 < counted tag accounts
    owner_counts owns = let e = held_given pool tag n owns in omega (arith, e, held_counted tag)

  pub pushed_parts : (tag n : ℕ) → has_account tag accounts ≡ false → n ≤ length owners - all_reserved (reservations_of accounts)
      → AreParts owners (accounts ++ record { reservation = record { tag = tag; blocks = n }; held = 0 } ∷ []) words
  pushed_parts tag n none fits =
      let r : Reservation = record { tag = tag; blocks = n } in
      let none' : is_reserved tag (reservations_of accounts) ≡ false = sym (is_reserved_in tag accounts) ∙ none in
      let rs = map-append (λ a. a.reservation) accounts (record { reservation = r; held = 0 } ∷ []) in
      record {
        sound = sound_pushed owners (reservations_of accounts) _ tag n ok.sound none' fits rs;
        counts = All-push (λ a. a.held ≡ count_by (is_owned_by a.reservation.tag) owners) accounts (record { reservation = r; held = 0 }) ok.counts
            (let e = reserved_none tag (reservations_of accounts) (none_since tag (reservations_of accounts) none') in omega (arith, e, ok.sound.kept tag));
        free = ok.free;
      }

  pub withdrawn_parts : (tag : ℕ) → held tag pool ≡ 0 → AreParts owners (without_account tag accounts) words
  withdrawn_parts tag idle = record {
    sound = sound_withdrawn owners (reservations_of accounts) _ tag ok.sound idle (without_in tag accounts);
    counts = All-filter (λ a. not (is_account_of tag a)) (λ a. a.held ≡ count_by (is_owned_by a.reservation.tag) owners) accounts ok.counts;
    free = ok.free;
  }
