-- Packings, draws and gives commute with the renaming of blocks.
use Rattle.std.proofs.Common.{◌≡◌, ℕ, ◌+◌, ◌-◌, ◌<◌, Bool, true, false, if◌then◌else◌, List, [], ◌∷◌, ◌++◌, length, map, drop, Option, Some, None, refl, sym, ap, subst, ◌∙◌, arith, inl, inr}
use Rattle.std.specs.Prelude.{All, option_map, option_to_list, unwrap_or, slice_set, position, nat_lt}
use Rattle.std.specs.List.{position_or_len}
use Rattle.std.proofs.lemmas.Bool.{cases_Bool, ltb-true}
use Rattle.std.proofs.lemmas.List.{map-append, map_push, drop-map, length-map, length-set}
use Rattle.std.proofs.lemmas.List.Elements.{All-head, All-tail}
use Rattle.bs_block.specs.Rounding.{rounded}
use Rattle.bs_pool.specs.declared.reservation.Reservation.{Reservation}
use Rattle.bs_pool.specs.Ledger.{Ledger, ledger_of, drawn, least_free, is_unowned}
use Rattle.bs_heap.specs.HeldBlocks.{all_given, next_number}
use Rattle.bs_heap.specs.Packing.{Use, Place, Packing, uses, numbers_of, closed_numbers, fits, packed, with_block, with_place, with_place_in, last_alone}
use Rattle.bs_game.specs.declared.reply.Effect.{Effect}
use Rattle.bs_game.specs.declared.reply.Effect.TheVariants as effect
use Rattle.bs_sched.specs.Frames.{flattened}
use Rattle.bs_sched.specs.Memory.{CanDraw}
use Rattle.bs_sched.specs.Storage.{packing_after, pool_after}
use Rattle.bs_pool.specs.Woven.{woven, place_in}
use Rattle.bs_heap.specs.Renaming.{renamed_use, renamed_place, renamed_packing}
use Rattle.bs_pool.proofs.Woven.{sets_woven, first_woven}

found : {X : Type 0} (p : X → Bool) (xs : List X) (n : ℕ) → position p xs ≡ Some n → (position_or_len p xs ≡ n) × (n < length xs)
found p xs n at =
    elim (cases_Bool (nat_lt (position_or_len p xs) (length xs))) [
      | inl some ↦
          let e = rw some at at in
          let is : position_or_len p xs ≡ n = cc in
          (is, let less = ltb-true _ _ some in omega (arith, less, is))
      | inr none ↦ let e = rw none at at in cc
    ]

-- the ledger of the whole while the owners of a part are laid into it
abbrev pub whole_ledger : (ℕ → ℕ) → List (Option ℕ) → List Reservation → Ledger → Ledger
whole_ledger rename before rs pool = ledger_of (woven rename before pool.owners) rs

abbrev pub AreBelow : ℕ → List ℕ → Type 0
AreBelow size numbers = All (λ n. n < size) numbers

module _ (phi : ℕ → ℕ) where
  -- the numbers of a packing

  numbers_map : (us : List Use) → map (λ u. u.number) (map (renamed_use phi) us) ≡ map phi (map (λ u. u.number) us)
  numbers_map [] = refl
  numbers_map (u ∷ us) = ap (λ ns. phi u.number ∷ ns) (numbers_map us)

  list_map : (o : Option Use) → option_to_list (option_map (renamed_use phi) o) ≡ map (renamed_use phi) (option_to_list o)
  list_map None = refl
  list_map (Some u) = refl

  uses_apart : (p : Packing) → uses (renamed_packing phi p) ≡ map (renamed_use phi) (uses p)
  uses_apart p =
      ap (λ us. map (renamed_use phi) p.closed ++ us) (list_map p.current) ∙ sym (map-append (renamed_use phi) p.closed (option_to_list p.current))

  pub numbers_apart : (p : Packing) → numbers_of (renamed_packing phi p) ≡ map phi (numbers_of p)
  numbers_apart p = ap (map (λ (u : Use). u.number)) (uses_apart p) ∙ numbers_map (uses p)

  pub closed_apart : (p : Packing) → closed_numbers (renamed_packing phi p) ≡ map phi (closed_numbers p)
  closed_apart p = numbers_map p.closed

  -- a record is added

  pub fits_apart : (cap size : ℕ) (o : Option Use) → fits cap size (option_map (renamed_use phi) o) ≡ fits cap size o
  fits_apart cap size None = refl
  fits_apart cap size (Some u) = refl

  pub block_apart : (number : ℕ) (p : Packing) → with_block (phi number) (renamed_packing phi p) ≡ renamed_packing phi (with_block number p)
  block_apart number p =
      ap (λ (us : List Use). record { closed = us; current = Some (record { number = phi number; used = 0 }); places = map (renamed_place phi) p.places }) (uses_apart p)

  place_apart_at : (len : ℕ) (p : Packing) (o : Option Use)
      → with_place_in len (renamed_packing phi p) (option_map (renamed_use phi) o) ≡ renamed_packing phi (with_place_in len p o)
  place_apart_at len p None = refl
  place_apart_at len p (Some u) =
      ap (λ (ps : List Place). record { closed = map (renamed_use phi) p.closed; current = Some (record { number = phi u.number; used = u.used + rounded len }); places = ps })
      (sym (map_push (renamed_place phi) p.places (record { number = u.number; at = u.used; len = len })))

  pub place_apart : (len : ℕ) (p : Packing) → with_place len (renamed_packing phi p) ≡ renamed_packing phi (with_place len p)
  place_apart len p = place_apart_at len p p.current

  opened_apart : (number : ℕ) (p : Packing) (b : Bool)
      → (if b then renamed_packing phi p else with_block (phi number) (renamed_packing phi p)) ≡ renamed_packing phi (if b then p else with_block number p)
  opened_apart number p true = refl
  opened_apart number p false = block_apart number p

  pub packed_apart : (cap number len : ℕ) (p : Packing) → packed cap (phi number) len (renamed_packing phi p) ≡ renamed_packing phi (packed cap number len p)
  packed_apart cap number len p =
      ap (λ (b : Bool). with_place len (if b then renamed_packing phi p else with_block (phi number) (renamed_packing phi p))) (fits_apart cap (rounded len) p.current)
      ∙ ap (with_place len) (opened_apart number p (fits cap (rounded len) p.current))
      ∙ place_apart len (if fits cap (rounded len) p.current then p else with_block number p)

  last_apart : (ps : List Place) → last_alone (map (renamed_place phi) ps) ≡ map (renamed_place phi) (last_alone ps)
  last_apart ps = ap (λ n. drop (n - 1) (map (renamed_place phi) ps)) (length-map ps (renamed_place phi)) ∙ drop-map (renamed_place phi) (length ps - 1) ps

  pub frames_apart : (frames : List (Option ℕ)) → flattened (map (option_map phi) frames) ≡ map phi (flattened frames)
  frames_apart [] = refl
  frames_apart (None ∷ frames) = frames_apart frames
  frames_apart (Some n ∷ frames) = ap (λ ns. phi n ∷ ns) (frames_apart frames)

pub packings_law : (phi : ℕ → ℕ) (cap number : ℕ) (effect : Effect) (p : Packing)
    → packing_after cap (phi number) effect (renamed_packing phi p) ≡ renamed_packing phi (packing_after cap number effect p)
packings_law phi cap number effect.Keep p = refl
packings_law phi cap number (effect.Add bytes) p = packed_apart phi cap number (length bytes) p
packings_law phi cap number effect.Trim p =
    ap (λ (ps : List Place). record { closed = []; current = option_map (renamed_use phi) p.current; places = ps }) (last_apart phi p.places)
packings_law phi cap number effect.Drop p = refl

-- the pool

pub gives_law : (rename : ℕ → ℕ) (before : List (Option ℕ)) (rs : List Reservation) (numbers : List ℕ) (pool : Ledger) → AreBelow (length pool.owners) numbers
    → all_given (map (place_in before) numbers) (whole_ledger rename before rs pool) ≡ whole_ledger rename before rs (all_given numbers pool)
gives_law rename before rs [] pool below = refl
gives_law rename before rs (n ∷ numbers) pool below =
    let within : n < length pool.owners = All-head (λ m. m < length pool.owners) n numbers below in
    let owners' = slice_set pool.owners n None in
    let pool' = ledger_of owners' pool.reservations in
    let below' : AreBelow (length owners') numbers
    = subst (λ size. AreBelow size numbers) (sym (length-set pool.owners n None)) (All-tail (λ m. m < length pool.owners) n numbers below) in
    ap (λ (os : List (Option ℕ)). all_given (map (place_in before) numbers) (ledger_of os rs)) (sets_woven rename before pool.owners n None within)
    ∙ gives_law rename before rs numbers pool' below'

pub draws_law : (rename : ℕ → ℕ) (before : List (Option ℕ)) (rs : List Reservation) (tag n : ℕ) (pool : Ledger) → least_free pool ≡ Some n
    → (next_number (whole_ledger rename before rs pool) ≡ place_in before n)
    × (drawn (rename tag) (place_in before n) (whole_ledger rename before rs pool) ≡ whole_ledger rename before rs (drawn tag n pool))
draws_law rename before rs tag n pool at =
    let within = (found is_unowned pool.owners n at).1 in (
      ap (λ o. unwrap_or o 0) (first_woven rename before pool.owners n at),
      ap (λ (os : List (Option ℕ)). ledger_of os rs) (sets_woven rename before pool.owners n (Some tag) within),
    )

added_apart : (rename : ℕ → ℕ) (before : List (Option ℕ)) (rs : List Reservation) (tag : ℕ) (pool : Ledger) (b : Bool)
    → (b ≡ false → least_free pool ≡ Some (next_number pool))
    → (if b then whole_ledger rename before rs pool else drawn (rename tag) (next_number (whole_ledger rename before rs pool)) (whole_ledger rename before rs pool))
    ≡ whole_ledger rename before rs (if b then pool else drawn tag (next_number pool) pool)
added_apart rename before rs tag pool true can = refl
added_apart rename before rs tag pool false can =
    let draws = draws_law rename before rs tag (next_number pool) pool (can refl) in
    ap (λ n. drawn (rename tag) n (whole_ledger rename before rs pool)) draws.0 ∙ draws.1

pub pool_law : (rename : ℕ → ℕ) (before : List (Option ℕ)) (rs : List Reservation) (cap tag : ℕ) (effect : Effect) (p : Packing) (pool : Ledger)
    → CanDraw cap effect p pool → AreBelow (length pool.owners) (closed_numbers p) → AreBelow (length pool.owners) (numbers_of p)
    → pool_after cap (rename tag) effect (renamed_packing (place_in before) p) (whole_ledger rename before rs pool)
    ≡ whole_ledger rename before rs (pool_after cap tag effect p pool)
pool_law rename before rs cap tag effect.Keep p pool can closed all = refl
pool_law rename before rs cap tag (effect.Add bytes) p pool can closed all =
    let w = whole_ledger rename before rs pool in
    ap (λ (b : Bool). if b then w else drawn (rename tag) (next_number w) w) (fits_apart (place_in before) cap (rounded (length bytes)) p.current)
    ∙ added_apart rename before rs tag pool (fits cap (rounded (length bytes)) p.current) can
pool_law rename before rs cap tag effect.Trim p pool can closed all =
    ap (λ ns. all_given ns (whole_ledger rename before rs pool)) (closed_apart (place_in before) p) ∙ gives_law rename before rs (closed_numbers p) pool closed
pool_law rename before rs cap tag effect.Drop p pool can closed all =
    ap (λ ns. all_given ns (whole_ledger rename before rs pool)) (numbers_apart (place_in before) p) ∙ gives_law rename before rs (numbers_of p) pool all
