-- Who owns which number once a pool is laid into another, with the offset added to its tags.
use Rattle.std.proofs.Common.{◌≡◌, ℕ, zero, suc, ◌<◌, List, [], ◌∷◌, length, slice_index_or, Option, Some, None, IsSome, refl, ap, ◌∙◌, arith}
use Rattle.std.specs.Prelude.{option_map}
use Rattle.std.proofs.lemmas.Option.{slice_get_within, slice_get-get_or, get_or_from_slice_get}
use Rattle.bs_pool.specs.Assembly.{raised, with_pool, AreNew}
use Rattle.bs_pool.specs.Ledger.{Ledger, IsSound, Owns, held, reservation_of}
use Rattle.bs_pool.specs.Woven.{woven, place_in}
use Rattle.bs_pool.proofs.Woven.{place_within}
use Rattle.bs_pool.proofs.WovenCounts.{held_before, held_new}

-- at the place of a number stands its owner
pub get_woven : (rename : ℕ → ℕ) (whole group : List (Option ℕ)) (n : ℕ) (d e : Option ℕ) → n < length group
    → slice_index_or (woven rename whole group) (place_in whole n) e ≡ option_map rename (slice_index_or group n d)
get_woven rename [] [] n d e within = absurd (omega (arith, within))
get_woven rename [] (o ∷ group) zero d e within = refl
get_woven rename [] (o ∷ group) (suc n) d e within = get_woven rename [] group n d e (omega (arith, within))
get_woven rename (Some owner ∷ whole) group n d e within = get_woven rename whole group n d e within
get_woven rename (None ∷ whole) [] n d e within = absurd (omega (arith, within))
get_woven rename (None ∷ whole) (o ∷ group) zero d e within = refl
get_woven rename (None ∷ whole) (o ∷ group) (suc n) d e within = get_woven rename whole group n d e (omega (arith, within))

-- an owner of the whole stays
stays_woven : (rename : ℕ → ℕ) (whole group : List (Option ℕ)) (n tag : ℕ) (d : Option ℕ) → n < length whole → slice_index_or whole n d ≡ Some tag
    → (n < length (woven rename whole group)) × (slice_index_or (woven rename whole group) n d ≡ Some tag)
stays_woven rename [] group n tag d within is = absurd (omega (arith, within))
stays_woven rename (Some owner ∷ whole) group zero tag d within is = (omega arith, is)
stays_woven rename (Some owner ∷ whole) group (suc n) tag d within is =
    let rest = stays_woven rename whole group n tag d (omega (arith, within)) is in (omega (arith, rest.0), rest.1)
stays_woven rename (None ∷ whole) group zero tag d within is = cc
stays_woven rename (None ∷ whole) [] (suc n) tag d within is =
    let rest = stays_woven rename whole [] n tag d (omega (arith, within)) is in (omega (arith, rest.0), rest.1)
stays_woven rename (None ∷ whole) (o ∷ group) (suc n) tag d within is =
    let rest = stays_woven rename whole group n tag d (omega (arith, within)) is in (omega (arith, rest.0), rest.1)

module _ (offset : ℕ) (pool whole : Ledger) where
  pub owns_laid : (tag n : ℕ) → Owns tag n pool → Owns (raised offset tag) (place_in whole.owners n) (with_pool offset pool whole)
  owns_laid tag n owns =
      let within = slice_get_within pool.owners n (Some tag) owns in
      slice_get-get_or (woven (raised offset) whole.owners pool.owners) (place_in whole.owners n) None (place_within (raised offset) whole.owners pool.owners n within)
      ∙ ap Some (get_woven (raised offset) whole.owners pool.owners n None None within ∙ ap (option_map (raised offset)) (get_or_from_slice_get pool.owners n (Some tag) None owns))

  pub still_owns_laid : (tag n : ℕ) → Owns tag n whole → Owns tag n (with_pool offset pool whole)
  still_owns_laid tag n owns =
      let stays = stays_woven (raised offset) whole.owners pool.owners n tag None (slice_get_within whole.owners n (Some tag) owns) (get_or_from_slice_get whole.owners n (Some tag) None owns) in
      slice_get-get_or (woven (raised offset) whole.owners pool.owners) n None stays.0 ∙ ap Some stays.1

  module _ (sound : IsSound pool) (sound' : IsSound whole) (new : AreNew offset pool whole) where
    -- a tag of the pool owns as many numbers as before
    pub held_laid : (tag : ℕ) → reservation_of (raised offset tag) whole ≡ None → held (raised offset tag) (with_pool offset pool whole) ≡ held tag pool
    held_laid tag none = held_new offset whole.owners pool.owners whole.reservations pool.reservations (λ k d h. (new k d h).1) sound'.kept sound.kept tag none

    -- and so does a tag of the whole
    pub still_held_laid : (tag : ℕ) → IsSome (reservation_of tag whole) → held tag (with_pool offset pool whole) ≡ held tag whole
    still_held_laid tag some = held_before offset whole.owners pool.owners whole.reservations pool.reservations (λ k d h. (new k d h).1) sound'.kept sound.kept tag some
