-- Frame blocks that are drawn and given back while no other block is drawn.
use Rattle.std.proofs.Common.{◌≡◌, ℕ, zero, suc, ◌+◌, ◌<◌, ◌≤◌, true, false, List, [], ◌∷◌, length, Option, Some, None, IsSome, refl, sym, ap, subst, ◌∙◌, arith}
use Rattle.std.specs.Prelude.{Bool, if◌then◌else◌, slice_get, slice_set, unwrap_or}
use Rattle.std.proofs.lemmas.Bool.{le-leb, leb-true}
use Rattle.bs_block.specs.Rounding.{rounded}
use Rattle.bs_block.proofs.Rounded.{rounded_above}
use Rattle.bs_fiber.specs.declared.job.JobKind.TheVariants as kind
use Rattle.bs_game.specs.Law.{IsFitEffect}
use Rattle.bs_game.specs.declared.reply.Effect.{Effect}
use Rattle.bs_game.specs.declared.reply.Effect.TheVariants as effect
use Rattle.bs_heap.specs.Charge.{charge_of}
use Rattle.bs_heap.specs.declared.heap.TheConstants.{MOST_RECORD_BYTES}
use Rattle.bs_heap.specs.HeldBlocks.{Holds, all_given, next_number}
use Rattle.bs_heap.specs.Packing.{Packing, Use, closed_numbers, fits, numbers_of, with_block, with_place}
use Rattle.bs_heap.proofs.GivenBlocks.{all_given_first, all_given_last}
use Rattle.bs_pool.specs.Ledger.{IsSound, Ledger, drawn, given, held, least_free, reserved}
use Rattle.bs_pool.specs.Reservations.{reserved_by}
use Rattle.bs_pool.proofs.Owners.{free_at, held_drawn}
use Rattle.bs_pool.proofs.Soundness.{some_free, sound_drawn}
use Rattle.bs_sched.specs.Answering.{begun}
use Rattle.bs_sched.specs.Courses.{IsRight}
use Rattle.bs_sched.specs.Game.{GameView}
use Rattle.bs_sched.specs.Lane.{answered, is_ready}
use Rattle.bs_sched.specs.Storage.{packing_after, pool_after}
use Rattle.bs_sched.specs.declared.game.Game.TheInside.{Inside}
use Rattle.bs_sched.specs.inner.Answering.{frame_numbers, game_here, next_answer, number_behind, pool_here, with_frames}
use Rattle.bs_sched.specs.inner.Game.{HasBlocks, IsGame, game_in, lane_at}
use Rattle.bs_sched.proofs.Answered.{fit_effect}
use Rattle.bs_sched.proofs.Behind.{none_held}
use Rattle.bs_sched.proofs.ChangedGame.{keeps_boards, open_ready}
use Rattle.bs_sched.proofs.KeptRecords.{record_is_small}
use Rattle.bs_sched.proofs.NextAnswer.{idle_parts, right_begun}

-- ---- a block that is drawn and given back

set_back : {X : Type 0} (xs : List X) (n : ℕ) (x y : X) → slice_get xs n ≡ Some x → slice_set (slice_set xs n y) n x ≡ xs
set_back [] n x y at = refl
set_back (z ∷ xs) zero x y at = let same : z ≡ x = let e : Some z ≡ Some x = at in cc in ap (λ h. h ∷ xs) (sym same)
set_back (z ∷ xs) (suc n) x y at = ap (λ l. z ∷ l) (set_back xs n x y at)

given_back : (tag n : ℕ) (pool : Ledger) → least_free pool ≡ Some n → given n (drawn tag n pool) ≡ pool
given_back tag n pool at = ap (λ (os : List (Option ℕ)). record pool { owners = os }) (set_back pool.owners n None (Some tag) (free_at pool.owners n at))

there_by : (o : Option ℕ) → IsSome o → o ≡ Some (unwrap_or o 0)
there_by None is = let wrong : false ≡ true = is in absurd cc
there_by (Some n) is = refl

-- that many blocks are drawn, and giving them back leads back
record Drew (tag n : ℕ) (pool : Ledger) : Type 0 where
  sound : IsSound (with_frames tag n pool)
  many : held tag (with_frames tag n pool) ≡ held tag pool + n
  same : (with_frames tag n pool).reservations ≡ pool.reservations
  back : all_given (frame_numbers tag n pool) (with_frames tag n pool) ≡ pool

drew : (tag n : ℕ) (pool : Ledger) → IsSound pool → held tag pool + n ≤ reserved tag pool → Drew tag n pool
drew tag zero pool sound room = record { sound = sound; many = omega arith; same = refl; back = refl }
drew tag (suc n) pool sound room =
    let before = drew tag n pool sound (omega arith) in
    let now = with_frames tag n pool in
    let numbers = frame_numbers tag n pool in
    let next = next_number now in
    let many = before.many in
    let reserves : reserved tag now ≡ reserved tag pool = ap (reserved_by tag) before.same in
    let less : held tag now < reserved tag now = omega (arith, many, reserves, room) in
    let at : least_free now ≡ Some next = there_by (least_free now) (some_free now tag before.sound less) in
    record {
      sound = sound_drawn now.owners (slice_set now.owners next (Some tag)) now.reservations tag next before.sound less at refl;
      many = let more = held_drawn now tag next at in omega (arith, more, many);
      same = before.same;
      back = all_given_last numbers next (drawn tag next now) ∙ ap (all_given numbers) (given_back tag next now at) ∙ before.back;
    }

-- blocks may be given in either order
given_across : (xs ys : List ℕ) (pool : Ledger) → all_given xs (all_given ys pool) ≡ all_given ys (all_given xs pool)
given_across xs [] pool = refl
given_across xs (y ∷ ys) pool = given_across xs ys (given y pool) ∙ ap (all_given ys) (all_given_first xs y pool)

-- ---- a record for which there is room

fits_less : (cap small large : ℕ) (o : Option Use) → small ≤ large → fits cap large o ≡ true → fits cap small o ≡ true
fits_less cap small large None less is = is
fits_less cap small large (Some u) less is = le-leb (u.used + small) cap (let most = leb-true (u.used + large) cap is in omega (arith, most, less))

fits_record : (cap most charge : ℕ) (bytes : List ℕ) (p : Packing) → fits cap (rounded MOST_RECORD_BYTES) p.current ≡ true → IsFitEffect most charge (effect.Add bytes)
    → fits cap (rounded (length bytes)) p.current ≡ true
fits_record cap most charge bytes p room fit =
    let small = record_is_small most charge bytes fit in
    let above = rounded_above MOST_RECORD_BYTES in
    fits_less cap (rounded (length bytes)) (rounded MOST_RECORD_BYTES) p.current (omega (arith, small, above)) room

same_packing : (cap m n most charge : ℕ) (e : Effect) (p : Packing) → fits cap (rounded MOST_RECORD_BYTES) p.current ≡ true → IsFitEffect most charge e
    → packing_after cap m e p ≡ packing_after cap n e p
same_packing cap m n most charge effect.Keep p room fit = refl
same_packing cap m n most charge (effect.Add bytes) p room fit =
    let here = fits_record cap most charge bytes p room fit in
    ap (λ (b : Bool). with_place (length bytes) (if b then p else with_block m p)) here
    ∙ ap (λ (b : Bool). with_place (length bytes) (if b then p else with_block n p)) (sym here)
same_packing cap m n most charge effect.Trim p room fit = refl
same_packing cap m n most charge effect.Drop p room fit = refl

same_pool : (cap tag frames n most charge : ℕ) (e : Effect) (p : Packing) (pool : Ledger) → fits cap (rounded MOST_RECORD_BYTES) p.current ≡ true → IsFitEffect most charge e
    → Drew frames n pool → pool_after cap tag e p pool ≡ all_given (frame_numbers frames n pool) (pool_after cap tag e p (with_frames frames n pool))
same_pool cap tag frames n most charge effect.Keep p pool room fit drew = sym drew.back
same_pool cap tag frames n most charge (effect.Add bytes) p pool room fit drew =
    let here = fits_record cap most charge bytes p room fit in
    let now = with_frames frames n pool in
    ap (λ (b : Bool). if b then pool else drawn tag (next_number pool) pool) here ∙ sym drew.back
    ∙ ap (λ (b : Bool). all_given (frame_numbers frames n pool) (if b then now else drawn tag (next_number now) now)) (sym here)
same_pool cap tag frames n most charge effect.Trim p pool room fit drew =
    ap (all_given (closed_numbers p)) (sym drew.back) ∙ given_across (closed_numbers p) (frame_numbers frames n pool) (with_frames frames n pool)
same_pool cap tag frames n most charge effect.Drop p pool room fit drew =
    ap (all_given (numbers_of p)) (sym drew.back) ∙ given_across (numbers_of p) (frame_numbers frames n pool) (with_frames frames n pool)

-- ---- the stay whose current block has room for the largest record

module _ (cap n : ℕ) {at : ℕ} (c : Inside at) (pool : Ledger) (kept : IsGame cap c) (right : IsRight (lane_at c)) (ready : is_ready (lane_at c) kind.Begin 0 ≡ true)
    (room : fits cap (rounded MOST_RECORD_BYTES) c.heap.packing.current ≡ true) where
  fit : IsFitEffect c.heap.quota (charge_of c.heap.records) (next_answer (lane_at c)).effect
  fit =
      let boards = keeps_boards cap c kept (open_ready cap c kind.Begin 0 kept ready) in
      fit_effect (begun (lane_at c)) (next_answer (lane_at c)) c.heap (right_begun (lane_at c) right ready) refl refl
      (record { quota = boards.quota; records = boards.records })

  pub game_unseen : (v : GameView) → game_in c ≡ v → game_here cap (number_behind v.frames.tag 0 pool) v ≡ game_here cap (number_behind v.frames.tag n pool) v
  game_unseen v is =
      subst (λ (v : GameView). game_here cap (number_behind v.frames.tag 0 pool) v ≡ game_here cap (number_behind v.frames.tag n pool) v) is
      (ap (λ (p : Packing). record (game_in c) { lane = answered (begun (lane_at c)); packing = p })
      (same_packing cap (number_behind c.parts.tag 0 pool) (number_behind c.parts.tag n pool) c.heap.quota (charge_of c.heap.records) (next_answer (lane_at c)).effect c.heap.packing room fit))

  pub pool_unseen : (v : GameView) → game_in c ≡ v → IsSound pool → HasBlocks cap v pool → n ≤ 4 → pool_here cap 0 v pool ≡ pool_here cap n v pool
  pool_unseen v is sound has few =
      let own : HasBlocks cap (game_in c) pool = subst (λ (u : GameView). HasBlocks cap u pool) (sym is) has in
      let none : Holds c.parts.tag [] pool = none_held cap c pool own (idle_parts c.fiber c.parts ready kept.parts).1 in
      let held_none = none.all in
      let all = own.frame_room in
      subst (λ (u : GameView). pool_here cap 0 u pool ≡ pool_here cap n u pool) is
      (same_pool cap c.heap.tag c.parts.tag n c.heap.quota (charge_of c.heap.records) (next_answer (lane_at c)).effect c.heap.packing pool room fit
      (drew c.parts.tag n pool sound (omega (arith, held_none, all, few))))
