-- The isolation law of the memory: the records and blocks of all stays.
use Rattle.std.proofs.Common.{◌≡◌, ◌≢◌, ℕ, zero, suc, ◌+◌, ◌-◌, ◌<◌, ◌≤◌, true, false, List, [], ◌∷◌, ◌++◌, length, map, replicate, Bool, Option, None, refl, sym, ap, subst, ◌∙◌, arith, inl, inr}
use Rattle.std.specs.List.{list_any}
use Rattle.std.specs.Prelude.{if◌then◌else◌, not, nat_eq, nat_le, All, slice_index_or, slice_set, count_by}
use Rattle.std.proofs.Math.ListN.{get_or-map}
use Rattle.std.proofs.lemmas.Bool.{cases_Bool, cases_lt, cond-true, cond-false, leb-true}
use Rattle.std.proofs.lemmas.List.{length-map, length-replicate, length_push, length-set, get_or-set_other, get_or_append_left, get_or_push}
use Rattle.std.proofs.lemmas.List.Elements.{All-nil, All-cons, All-head, All-tail, All-get_or, All-contains}
use Rattle.std.proofs.lemmas.List.Sums.{sum_by-cons, sum_by_push, sum_by-set, get_or-le-sum_by}
use Rattle.bs_board.proofs.Chains.{and_both}
use Rattle.bs_board.specs.plans.Plan.{GameRow, row_of, is_fit_row}
use Rattle.bs_game.specs.Law.{effected}
use Rattle.bs_game.specs.declared.reply.Effect.{Effect}
use Rattle.bs_game.specs.declared.reply.Effect.TheVariants as effect
use Rattle.bs_heap.specs.HeldBlocks.{Holds, next_number}
use Rattle.bs_heap.specs.Packing.{Packing, numbers_of, no_packing}
use Rattle.bs_heap.specs.PackedPlaces.{AreApart}
use Rattle.bs_heap.proofs.PackedPlaces.{apart_none}
use Rattle.bs_pool.specs.Ledger.{Ledger, ledger_of, is_unowned}
use Rattle.bs_pool.proofs.Counts.{count_cons}
use Rattle.bs_sched.specs.Memory.{Memory, block_in, memory_with, bytes_at}
use Rattle.bs_registry.specs.Blocks.{blocks_of, blocks_of_all}
use Rattle.bs_sched.specs.Storage.{Storage, packing_of, record_tag, frame_tag, packing_after, pool_after}
use Rattle.bs_sched.proofs.PlanBlocks.{nothing_held}
use Rattle.bs_sched.proofs.StoredRecords.{IsChanged, changed_by, of_others}
use Rattle.bs_sched.specs.declared.event.Event.{Event}
use Rattle.bs_sched.specs.declared.event.Event.TheVariants as event
use Rattle.bs_sched.specs.Isolation.{HandsFit, alone_event, accepted, is_accepted, own_events, opened_lanes, lone_run, shared_run, row_made}
use Rattle.bs_sched.specs.Lane.{Lane, forked, goes_on, has_begin, is_out, is_ready, empty_lane, no_lane, records_of, kept_of}
use Rattle.bs_sched.specs.Machine.{Setting, lane_of, is_allowed, game_of, row_in, is_admit, is_named, is_enabled, has_name, is_full, step, run_of, open_blocks}
use Rattle.bs_sched.specs.Memory.{World, effect_at, world_after, world_step, world_run, opened_world, games_step, games_run}
use Rattle.bs_sched.specs.Games.{GamesView, opened, pool_left, with_stay}
use Rattle.bs_sched.specs.inner.FrameEffects.{FrameEffect, Forks, Keeps, brought_effect, frame_effect, numbers_after, pool_framed, taken_effect}
use Rattle.bs_sched.specs.Frames.{flattened}
use Rattle.bs_fiber.specs.declared.job.JobKind.{JobKind}
use Rattle.bs_fiber.specs.declared.job.JobKind.TheVariants as kind
use Rattle.bs_sched.specs.SharedMemory.{IsHosted, shared_world, lone_world, games_with, packing_in, numbers_in, frames_in, all_framed, all_held, bytes_in, SharesBlocks, KeepsBytes, IsIsolatedInMemory, MemoryLaw}
use Rattle.bs_sched.proofs.EventEffects.{told_at, fits_now, released, storage_is, storage_comes}
use Rattle.bs_sched.proofs.HandedCommands.{its_row, row_kept}
use Rattle.bs_sched.proofs.Isolation.{runs_alone}
use Rattle.bs_sched.proofs.LoneLanes.{comer, effect_admit, effect_there, changed, cases_step, Comes, Changes, met, named_not, keeps_row, grows, grows_run, others_leave}
use Rattle.bs_sched.proofs.BegunParts.{AreBegun, few_numbers, free_to_draw, none_drawn, none_idle, none_quiet, shape_after}
use Rattle.bs_sched.proofs.PartFrames.{length_known}
use Rattle.bs_sched.proofs.Reframed.{AreFramed, IsReframed, MayFrame, framed_beside, framed_changed, framed_comes, framed_reserved, numbers_at, reframed}
use Rattle.bs_sched.specs.inner.Reserved.{AreReserved, IsReserved}
use Rattle.bs_sched.proofs.Reserved.{reserved_changed, reserved_left, reserved_comes, reserved_opened, enough, more_of, rest_of}
use Rattle.bs_sched.proofs.RightRuns.{AreWell, fit_comer, well_step, well_opened, open_when, open_taken, open_put, opened_lane}
use Rattle.bs_sched.proofs.SharedMemory.{KeepsLane, AreStored, few_of, can_draw, frame_there, kept_nothing, stored_changed, stored_reserved, stored_comes, stored_framed}

-- the lanes follow their machine

lanes_step : (setting : Setting) (world : World) (e : Event) → (world_step setting world e).lanes ≡ step setting world.lanes e
lanes_step setting world e =
    elim (cases_Bool (is_enabled setting world.lanes e)) [
      | inl on ↦ rw on refl
      | inr off ↦ rw off refl
    ]

pub lanes_run : (setting : Setting) (world : World) (events : List Event) → (world_run setting world events).lanes ≡ run_of setting world.lanes events
lanes_run setting world [] = refl
lanes_run setting world (e ∷ events) =
    lanes_run setting (world_step setting world e) events ∙ ap (λ (ls : List Lane). run_of setting ls events) (lanes_step setting world e)

-- and so does the core as its calls see it

core_goes_along : (setting : Setting) (core : GamesView) (world : World) (e : Event)
    → games_step setting (games_with core world) e ≡ games_with core (world_step setting world e)
core_goes_along setting core world e =
    elim (cases_Bool (is_enabled setting world.lanes e)) [
      | inl on ↦ rw on refl
      | inr off ↦ rw off refl
    ]

core_runs_along : (setting : Setting) (core : GamesView) (world : World) (events : List Event)
    → games_run setting (games_with core world) events ≡ games_with core (world_run setting world events)
core_runs_along setting core world [] = refl
core_runs_along setting core world (e ∷ events) =
    ap (λ (next : GamesView). games_run setting next events) (core_goes_along setting core world e)
    ∙ core_runs_along setting core (world_step setting world e) events

-- the machine with its memory after each step

world_enabled : (setting : Setting) (world : World) (e : Event) → is_enabled setting world.lanes e ≡ true → world_step setting world e ≡ world_after setting.cap world e
world_enabled setting world e on = cond-true (is_enabled setting world.lanes e) (world_after setting.cap world e) world on

world_refused : (setting : Setting) (world : World) (e : Event) → is_enabled setting world.lanes e ≡ false → world_step setting world e ≡ world
world_refused setting world e off = cond-false (is_enabled setting world.lanes e) (world_after setting.cap world e) world off

admit_keeps : (e : Event) (x : Lane) → is_admit e ≡ true → effect_at e x ≡ effect.Keep
admit_keeps (event.Hand game command) x comes = refl
admit_keeps (event.Take worker job) x comes = refl
admit_keeps (event.Put worker job) x comes = let wrong : false ≡ true = comes in absurd cc
admit_keeps (event.Admit row) x comes = refl
admit_keeps (event.Leave game) x comes = let wrong : false ≡ true = comes in absurd cc

abbrev world_of : List Lane → Storage → Memory → World
world_of lanes storage memory = record { lanes = lanes; storage = storage; memory = memory }

abbrev world_with : ℕ → World → GameRow → World
world_with cap world row = world_of (world.lanes ++ empty_lane row ∷ []) (with_stay cap (length world.lanes) row world.storage) world.memory

world_comes : (setting : Setting) (world : World) (e : Event) → Comes setting world.lanes e → world_step setting world e ≡ world_with setting.cap world (row_in e)
world_comes setting world e comes =
    let x = lane_of world.lanes (game_of e) in
    let same : memory_with setting.cap (next_number world.storage.pool) (effect_at e x) (packing_of world.storage (game_of e)) world.memory ≡ world.memory
    = rw (admit_keeps e x comes.admits) refl in
    world_enabled setting world e comes.on
    ∙ (λ i. world_of (effect_admit world.lanes e comes.admits i) (storage_comes setting.cap e world.lanes world.storage comes.admits i) (same i))

-- the effect of an event that names a row
abbrev effect_in : World → Event → Effect
effect_in world e = effect_at e (lane_of world.lanes (game_of e))

abbrev frame_effect_in : World → Event → FrameEffect
frame_effect_in world e = frame_effect e (lane_of world.lanes (game_of e))

abbrev new_packing : ℕ → World → Event → Packing
new_packing cap world e = packing_after cap (next_number world.storage.pool) (effect_in world e) (packing_of world.storage (game_of e))

abbrev new_pool : ℕ → World → Event → Ledger
new_pool cap world e = pool_after cap (record_tag (game_of e)) (effect_in world e) (packing_of world.storage (game_of e)) world.storage.pool

abbrev new_memory : ℕ → World → Event → Memory
new_memory cap world e = memory_with cap (next_number world.storage.pool) (effect_in world e) (packing_of world.storage (game_of e)) world.memory

-- the numbers of its frames, and the pool after those
abbrev new_numbers : ℕ → World → Event → List (Option ℕ)
new_numbers cap world e = numbers_after (frame_effect_in world e) (numbers_at world.storage.frames (game_of e)) (new_pool cap world e)

abbrev last_pool : ℕ → World → Event → Ledger
last_pool cap world e = pool_framed (frame_effect_in world e) (frame_tag (game_of e)) (numbers_at world.storage.frames (game_of e)) (new_pool cap world e)

-- the storage before the reservations are given back
abbrev mid_storage : ℕ → World → Event → Storage
mid_storage cap world e =
    record {
      packings = slice_set world.storage.packings (game_of e) (new_packing cap world e);
      frames = slice_set world.storage.frames (game_of e) (new_numbers cap world e);
      pool = last_pool cap world e;
    }

abbrev world_changed : ℕ → World → Event → World
world_changed cap world e =
    world_of (slice_set world.lanes (game_of e) (changed world.lanes e)) (released e (mid_storage cap world e)) (new_memory cap world e)

world_changes : (setting : Setting) (world : World) (e : Event) → Changes setting world.lanes e → world_step setting world e ≡ world_changed setting.cap world e
world_changes setting world e changes =
    world_enabled setting world e changes.on
    ∙ (λ i. world_of (effect_there world.lanes e changes.there i) (storage_is setting.cap e world.lanes world.storage changes.there i) (new_memory setting.cap world e))

-- all events keep the records

record IsSoundWorld (cap blocks : ℕ) (world : World) : Type 0 where
  stored : AreStored cap blocks (all_framed world.storage.frames) world.lanes world.storage.packings world.storage.pool world.memory
  parts : AreFramed world.lanes world.storage.frames world.storage.pool world.memory
  reserved : AreReserved cap blocks world.lanes world.storage.pool.reservations
  well : AreWell world.lanes

-- a stay is admitted

reserved_before : (cap blocks : ℕ) (lanes : List Lane) (pool : Ledger) (row : GameRow) → AreReserved cap blocks (lanes ++ empty_lane row ∷ []) (more_of cap (length lanes) row pool.reservations)
    → (game : ℕ) → game < length lanes → (lane_of lanes game).is_open ≡ true
    → IsReserved cap game (lane_of lanes game).row (more_of cap (length lanes) row pool.reservations)
reserved_before cap blocks lanes pool row are game within stands =
    let y = empty_lane row in
    let long = length_push lanes y in
    let there : lane_of (lanes ++ y ∷ []) game ≡ lane_of lanes game = get_or_append_left lanes (y ∷ []) no_lane game within in
    let open_now : (lane_of (lanes ++ y ∷ []) game).is_open ≡ true = ap (λ (x : Lane). x.is_open) there ∙ stands in
    rw there at (are.each game (omega (arith, long, within)) open_now)

sound_comes : (cap blocks : ℕ) (world : World) (row : GameRow) → IsSoundWorld cap blocks world → AreWell (world.lanes ++ empty_lane row ∷ [])
    → blocks_of cap row ≤ blocks - open_blocks cap world.lanes → IsSoundWorld cap blocks (world_with cap world row)
sound_comes cap blocks world row sound well fits =
    let lanes = world.lanes in
    let y = empty_lane row in
    let pool = world.storage.pool in
    let rs = more_of cap (length lanes) row pool.reservations in
    let reserved = reserved_comes cap blocks lanes pool.reservations row sound.reserved fits in
    let long = length_push lanes y in
    let there : lane_of (lanes ++ y ∷ []) (length lanes) ≡ y = get_or_push lanes y no_lane (length lanes) refl in
    let open_now : (lane_of (lanes ++ y ∷ []) (length lanes)).is_open ≡ true = ap (λ (x : Lane). x.is_open) there in
    let mine : IsReserved cap (length lanes) row rs = rw there at (reserved.each (length lanes) (omega (arith, long)) open_now) in
    let none : List (Option ℕ) = [] in
    let frames : all_framed (world.storage.frames ++ none ∷ []) ≡ all_framed world.storage.frames + 0
    = sum_by_push (λ (ns : List (Option ℕ)). length (flattened ns)) world.storage.frames none in
    let same : all_framed (world.storage.frames ++ none ∷ []) ≡ all_framed world.storage.frames = omega (arith, frames) in
    let after = stored_reserved cap blocks (all_framed world.storage.frames) lanes world.storage.packings pool world.memory rs sound.stored
    (λ game less stands. enough cap game (lane_of lanes game).row rs (reserved_before cap blocks lanes pool row reserved game less stands)) in
    let nothing : Holds (frame_tag (length lanes)) [] (ledger_of pool.owners rs)
    = after.rest (frame_tag (length lanes)) (record { records = λ other less is. omega (arith, less, is); frames = λ other less is. omega (arith, less, is) }) in
    record {
      stored = rw same (stored_comes cap blocks (all_framed world.storage.frames) lanes world.storage.packings (ledger_of pool.owners rs) world.memory row after mine);
      parts = framed_comes lanes world.storage.frames (ledger_of pool.owners rs) world.memory y
          (framed_reserved lanes world.storage.frames pool world.memory rs sound.parts) nothing (record { are = refl });
      reserved = reserved;
      well = well;
    }

-- a stay changes: its records, and then its frames

-- the effect of an event on the frames is possible after its effect on the records

may_frame_begun : (x : Lane) (worker : ℕ) (on : Bool) (numbers : List (Option ℕ)) (pool : Ledger) → has_begin worker x.stage ≡ true → AreBegun x numbers
    → MayFrame (if on then Forks (length (forked x).parts) else Keeps) numbers pool
may_frame_begun x worker true numbers pool has begun = none_drawn x worker numbers has begun
may_frame_begun x worker false numbers pool has begun = tt

may_frame_put : (x : Lane) (worker : ℕ) (k : JobKind) (p : ℕ) (numbers : List (Option ℕ)) (pool : Ledger) → AreBegun x numbers → is_out worker x k p ≡ true
    → MayFrame (brought_effect k x) numbers pool
may_frame_put x worker kind.Begin p numbers pool begun out =
    may_frame_begun x worker (goes_on x) numbers pool (and_both (nat_eq p 0) (has_begin worker x.stage) out).1 begun
may_frame_put x worker kind.Part p numbers pool begun out = tt
may_frame_put x worker kind.Join p numbers pool begun out = tt

may_frame_take : (cap blocks : ℕ) (world : World) (k : JobKind) (p game : ℕ) → IsSoundWorld cap blocks world → game < length world.lanes
    → (lane_of world.lanes game).is_open ≡ true → is_ready (lane_of world.lanes game) k p ≡ true
    → MayFrame (taken_effect k p) (numbers_at world.storage.frames game) world.storage.pool
may_frame_take cap blocks world kind.Begin p game sound within stands ready = tt
may_frame_take cap blocks world kind.Part p game sound within stands ready =
    let x = lane_of world.lanes game in
    let numbers = numbers_at world.storage.frames game in (
      free_to_draw x p numbers ready (sound.parts.each game within).begun,
      frame_there cap blocks (all_framed world.storage.frames) world.lanes world.storage.packings world.storage.frames world.storage.pool world.memory sound.stored sound.reserved
          sound.parts sound.well game p within stands ready,
    )
may_frame_take cap blocks world kind.Join p game sound within stands ready = tt

may_frame : (cap blocks : ℕ) (world : World) (e : Event) → IsSoundWorld cap blocks world → game_of e < length world.lanes
    → is_allowed (lane_of world.lanes (game_of e)) e ≡ true
    → MayFrame (frame_effect_in world e) (numbers_at world.storage.frames (game_of e)) (new_pool cap world e)
may_frame cap blocks world (event.Hand game command) sound within allowed = tt
may_frame cap blocks world (event.Take worker job) sound within allowed =
    let e = event.Take worker job in
    may_frame_take cap blocks world job.kind job.part job.game sound within (open_when (lane_of world.lanes job.game) e (sound.well job.game within) allowed) allowed
may_frame cap blocks world (event.Put worker job) sound within allowed =
    may_frame_put (lane_of world.lanes job.game) worker job.kind job.part (numbers_at world.storage.frames job.game) (new_pool cap world (event.Put worker job))
    (sound.parts.each job.game within).begun allowed
may_frame cap blocks world (event.Admit row) sound within allowed = tt
may_frame cap blocks world (event.Leave game) sound within allowed = tt

module _ (setting : Setting) (world : World) (e : Event) (sound : IsSoundWorld setting.cap setting.blocks world) (fit : HandsFit e) (changes : Changes setting world.lanes e) where
  abbrev at : ℕ
  at = game_of e

  abbrev x : Lane
  x = lane_of world.lanes at

  abbrev y : Lane
  y = changed world.lanes e

  abbrev lanes_now : List Lane
  lanes_now = slice_set world.lanes at y

  abbrev packings_now : List Packing
  packings_now = slice_set world.storage.packings at (new_packing setting.cap world e)

  abbrev frames_now : List (List (Option ℕ))
  frames_now = slice_set world.storage.frames at (new_numbers setting.cap world e)

  stands_before : x.is_open ≡ true
  stands_before = open_when x e (sound.well at changes.met.within) changes.met.allowed

  well_now : AreWell lanes_now
  well_now = subst AreWell changes.is (well_step setting world.lanes e fit sound.well)

  records_change : IsChanged setting.cap x.row.quota (record_tag at) (effected (effect_in world e) (records_of x.game)) (packing_of world.storage at) world.storage.pool
      world.memory (new_packing setting.cap world e) (new_pool setting.cap world e) (new_memory setting.cap world e)
  records_change =
      let told = told_at x e (sound.well at changes.met.within) fit changes.met.allowed in
      changed_by (effect_in world e) setting.cap x.row.quota (record_tag at) (records_of x.game) (packing_of world.storage at) world.storage.pool world.memory sound.stored.wide
      (sound.stored.numbers ∙ sym sound.stored.bytes) told.fits told.within
      (can_draw setting.cap setting.blocks (all_framed world.storage.frames) world.lanes world.storage.packings world.storage.frames world.storage.pool world.memory sound.stored sound.reserved sound.parts
      sound.well (effect_in world e) at changes.met.within stands_before told.fits)
      sound.stored.wiped ((sound.stored.kept at changes.met.within).there stands_before)

  keeps_now : KeepsLane setting.cap at y (new_packing setting.cap world e) (new_pool setting.cap world e) (new_memory setting.cap world e)
  keeps_now =
      let told = told_at x e (sound.well at changes.met.within) fit changes.met.allowed in
      record {
        there = λ still. rw (row_kept x e, told.records still) records_change.kept;
        gone = λ shut.
            let none : new_packing setting.cap world e ≡ no_packing = rw (told.dropped shut) refl in
            record { none = none; held = subst (λ (p : Packing). Holds (record_tag at) (numbers_of p) (new_pool setting.cap world e)) none records_change.kept.held };
      }

  stored_records : AreStored setting.cap setting.blocks (all_framed world.storage.frames) lanes_now packings_now (new_pool setting.cap world e) (new_memory setting.cap world e)
  stored_records =
      stored_changed setting.cap setting.blocks (all_framed world.storage.frames) at x.row.quota (effected (effect_in world e) (records_of x.game)) world.lanes world.storage.packings
      world.storage.pool (new_pool setting.cap world e) world.memory (new_memory setting.cap world e) y (new_packing setting.cap world e) sound.stored changes.met.within records_change keeps_now

  parts_then : AreFramed world.lanes world.storage.frames (new_pool setting.cap world e) (new_memory setting.cap world e)
  parts_then =
      framed_beside (record_tag at) world.lanes world.storage.frames world.storage.pool (new_pool setting.cap world e) world.memory (new_memory setting.cap world e)
      (λ other less same. absurd (omega (arith, same))) records_change.others records_change.blocks sound.parts

  frames_change : IsReframed (frame_tag at) (flattened (numbers_at world.storage.frames at)) (flattened (new_numbers setting.cap world e)) (new_pool setting.cap world e)
      (last_pool setting.cap world e) (new_memory setting.cap world e)
  frames_change =
      let mine = parts_then.each at changes.met.within in
      reframed (frame_effect_in world e) (frame_tag at) (numbers_at world.storage.frames at) (new_pool setting.cap world e) (new_memory setting.cap world e)
      (may_frame setting.cap setting.blocks world e sound changes.met.within changes.met.allowed) stored_records.wiped mine.held mine.bare

  parts_now : AreFramed lanes_now frames_now (last_pool setting.cap world e) (new_memory setting.cap world e)
  parts_now =
      let mine = sound.parts.each at changes.met.within in
      framed_changed at world.lanes world.storage.frames (new_pool setting.cap world e) (last_pool setting.cap world e) (new_memory setting.cap world e) y (new_numbers setting.cap world e)
      parts_then changes.met.within frames_change
      (shape_after x e (numbers_at world.storage.frames at) (new_pool setting.cap world e) changes.met.allowed mine.begun)

  stored_now : AreStored setting.cap setting.blocks (all_framed frames_now) lanes_now packings_now (last_pool setting.cap world e) (new_memory setting.cap world e)
  stored_now =
      let within = changes.met.within in
      let long = length-set world.lanes at y in
      let many = sound.parts.many in
      let sum = sum_by-set (λ (ns : List (Option ℕ)). length (flattened ns)) world.storage.frames at (new_numbers setting.cap world e) [] (omega (arith, many, within)) in
      stored_framed setting.cap setting.blocks (all_framed world.storage.frames) (all_framed frames_now) at lanes_now packings_now (new_pool setting.cap world e) (last_pool setting.cap world e)
      (new_memory setting.cap world e) (flattened (numbers_at world.storage.frames at)) (flattened (new_numbers setting.cap world e)) stored_records (omega (arith, long, within)) frames_change
      (omega (arith, sum))

  reservations_now : (last_pool setting.cap world e).reservations ≡ world.storage.pool.reservations
  reservations_now = frames_change.others.reservations ∙ records_change.others.reservations

  -- whether the stay is open is unchanged
  sound_still : released e (mid_storage setting.cap world e) ≡ mid_storage setting.cap world e
      → y.is_open ≡ true → IsSoundWorld setting.cap setting.blocks (world_changed setting.cap world e)
  sound_still as_is stands =
      rw as_is (record {
        stored = stored_now;
        parts = parts_now;
        reserved = rw reservations_now
            (reserved_changed setting.cap setting.blocks at world.lanes world.storage.pool.reservations y sound.reserved changes.met.within (row_kept x e)
            (stands ∙ sym stands_before));
        well = well_now;
      })

  -- the reservations are given back too
  sound_left : released e (mid_storage setting.cap world e) ≡ record { packings = packings_now; frames = frames_now; pool = pool_left at (last_pool setting.cap world e) }
      → y.is_open ≡ false → IsSoundWorld setting.cap setting.blocks (world_changed setting.cap world e)
  sound_left as_is shut =
      let rs = rest_of at (last_pool setting.cap world e).reservations in
      let reserved : AreReserved setting.cap setting.blocks lanes_now rs
      = rw reservations_now
      (reserved_left setting.cap setting.blocks at world.lanes world.storage.pool.reservations y sound.reserved changes.met.within stands_before shut) in
      rw as_is (record {
        stored = stored_reserved setting.cap setting.blocks (all_framed frames_now) lanes_now packings_now (last_pool setting.cap world e) (new_memory setting.cap world e) rs stored_now
            (λ other less stands. enough setting.cap other (lane_of lanes_now other).row rs (reserved.each other less stands));
        parts = framed_reserved lanes_now frames_now (last_pool setting.cap world e) (new_memory setting.cap world e) rs parts_now;
        reserved = reserved;
        well = well_now;
      })

sound_changes : (setting : Setting) (world : World) (e : Event) → IsSoundWorld setting.cap setting.blocks world → HandsFit e → Changes setting world.lanes e
    → IsSoundWorld setting.cap setting.blocks (world_changed setting.cap world e)
sound_changes setting world (event.Hand game command) sound fit changes =
    sound_still setting world (event.Hand game command) sound fit changes refl changes.met.allowed
sound_changes setting world (event.Take worker job) sound fit changes =
    let e = event.Take worker job in
    let x = lane_of world.lanes job.game in
    sound_still setting world e sound fit changes refl (open_taken x worker job.kind job.part ∙ open_when x e (sound.well job.game changes.met.within) changes.met.allowed)
sound_changes setting world (event.Put worker job) sound fit changes =
    let e = event.Put worker job in
    let x = lane_of world.lanes job.game in
    sound_still setting world e sound fit changes refl (open_put x job.kind job.part ∙ open_when x e (sound.well job.game changes.met.within) changes.met.allowed)
sound_changes setting world (event.Admit row) sound fit changes = let wrong : true ≡ false = changes.there in absurd cc
sound_changes setting world (event.Leave game) sound fit changes =
    sound_left setting world (event.Leave game) sound fit changes refl refl

sound_step : (setting : Setting) (world : World) (e : Event) → HandsFit e → IsSoundWorld setting.cap setting.blocks world
    → IsSoundWorld setting.cap setting.blocks (world_step setting world e)
sound_step setting world e fit sound =
    elim (cases_step setting world.lanes e) [
      | inl stays ↦ subst (IsSoundWorld setting.cap setting.blocks) (sym (world_refused setting world e stays.off)) sound
      | inr (inl comes) ↦
          let tests = and_both (not (is_full world.lanes)) (nat_le (blocks_of setting.cap (row_in e)) (setting.blocks - open_blocks setting.cap world.lanes))
          (and_both (not (list_any (has_name (row_in e)) world.lanes)) _ comes.may).1 in
          let fits : blocks_of setting.cap (row_in e) ≤ setting.blocks - open_blocks setting.cap world.lanes = leb-true _ _ tests.1 in
          let well : AreWell (world.lanes ++ empty_lane (row_in e) ∷ []) = subst AreWell comes.is (well_step setting world.lanes e fit sound.well) in
          subst (IsSoundWorld setting.cap setting.blocks) (sym (world_comes setting world e comes)) (sound_comes setting.cap setting.blocks world (row_in e) sound well fits)
      | inr (inr changes) ↦
          subst (IsSoundWorld setting.cap setting.blocks) (sym (world_changes setting world e changes)) (sound_changes setting world e sound fit changes)
    ]

sound_run : (setting : Setting) (world : World) (events : List Event) → All HandsFit events → IsSoundWorld setting.cap setting.blocks world
    → IsSoundWorld setting.cap setting.blocks (world_run setting world events)
sound_run setting world [] fit sound = sound
sound_run setting world (e ∷ events) fit sound =
    sound_run setting (world_step setting world e) events (All-tail HandsFit e events fit) (sound_step setting world e (All-head HandsFit e events fit) sound)

-- a newly opened core

all_free : (blocks : ℕ) → count_by is_unowned (replicate blocks None) ≡ blocks
all_free zero = refl
all_free (suc blocks) = let one = count_cons is_unowned None (replicate blocks None) in let rest = all_free blocks in omega (arith, one, rest)

none_held : (rows : List GameRow) → all_held (map (λ (_ : GameRow). no_packing) rows) ≡ 0
none_held [] = refl
none_held (row ∷ rows) =
    let sum = sum_by-cons (λ (p : Packing). length (numbers_of p)) no_packing (map (λ (_ : GameRow). no_packing) rows) in
    let rest = none_held rows in
    omega (arith, sum, rest)

no_bytes : (blocks number : ℕ) → block_in (replicate blocks []) number ≡ []
no_bytes zero number = refl
no_bytes (suc blocks) zero = refl
no_bytes (suc blocks) (suc number) = no_bytes blocks number

none_framed : (rows : List GameRow) → all_framed (map (λ (_ : GameRow). []) rows) ≡ 0
none_framed [] = refl
none_framed (row ∷ rows) =
    let sum = sum_by-cons (λ (ns : List (Option ℕ)). length (flattened ns)) [] (map (λ (_ : GameRow). []) rows) in
    let rest = none_framed rows in
    omega (arith, sum, rest)

sound_opened : (setting : Setting) (rows : List GameRow) → IsHosted setting rows → IsSoundWorld setting.cap setting.blocks (opened_world setting rows)
sound_opened setting rows hosted =
    let cap = setting.cap in
    let blocks = setting.blocks in
    let world = opened_world setting rows in
    let pool : Ledger = world.storage.pool in
    let none : GameRow → Packing = λ (_ : GameRow). no_packing in
    let lanes : length (opened_lanes rows) ≡ length rows = length-map rows empty_lane in
    let packings : length (map none rows) ≡ length rows = length-map rows none in
    let reserved = reserved_opened cap blocks rows hosted.room in
    let wide = hosted.wide in
    let all = all_free blocks in
    let nothing = none_held rows in
    let no_frame = none_framed rows in
    let no_numbers : GameRow → List (Option ℕ) = λ (_ : GameRow). [] in
    let frames : length (map no_numbers rows) ≡ length rows = length-map rows no_numbers in
    record {
      stored = record {
        wide = omega (arith, wide);
        many = omega (arith, lanes, packings);
        numbers = length-replicate blocks None;
        bytes = length-replicate blocks [];
        kept = λ game less.
            let within : game < length rows = omega (arith, less, lanes) in
            let row = slice_index_or rows game (row_of [] 0) in
            let held = nothing_held blocks (record_tag game) pool refl in
            let set_aside : IsReserved cap game row pool.reservations
            = rw (opened_lane rows game) at (reserved.each game less (ap (λ (x : Lane). x.is_open) (opened_lane rows game))) in
            rw (opened_lane rows game, get_or-map none rows game (row_of [] 0))
            (record {
              there = λ stands. kept_nothing cap row.quota (record_tag game) pool world.memory held (enough cap game row pool.reservations set_aside);
              gone = λ shut. record { none = refl; held = held };
            });
        rest = λ tag other. nothing_held blocks tag pool refl;
        wiped = λ number is_free. no_bytes blocks number;
        counts = omega (arith, all, nothing, no_frame);
      };
      parts = record {
        many = omega (arith, frames, lanes);
        each = λ game less.
            let within : game < length rows = omega (arith, less, lanes) in
            rw (opened_lane rows game, get_or-map no_numbers rows game (row_of [] 0))
            (record { held = nothing_held blocks (frame_tag game) pool refl; begun = record { are = refl }; bare = All-nil (λ m. block_in world.memory m ≡ []) });
      };
      reserved = reserved;
      well = well_opened rows hosted.plan;
    }

sound_shared : (setting : Setting) (rows : List GameRow) (events : List Event) → IsHosted setting rows → All HandsFit events
    → IsSoundWorld setting.cap setting.blocks (shared_world setting rows events)
sound_shared setting rows events hosted fit = sound_run setting (opened_world setting rows) events fit (sound_opened setting rows hosted)

-- the reservations are those of the open stays
pub reserved_shared : (setting : Setting) (rows : List GameRow) (events : List Event) → IsHosted setting rows → All HandsFit events
    → AreReserved setting.cap setting.blocks (shared_world setting rows events).lanes (shared_world setting rows events).storage.pool.reservations
reserved_shared setting rows events hosted fit = (sound_shared setting rows events hosted fit).reserved

-- the consequences for the blocks, and for each stay

-- open or not
holds_own : (cap blocks : ℕ) (world : World) (game : ℕ) → IsSoundWorld cap blocks world → game < length world.lanes
    → Holds (record_tag game) (numbers_in world game) world.storage.pool
holds_own cap blocks world game sound here =
    let kept = sound.stored.kept game here in
    elim (cases_Bool (lane_of world.lanes game).is_open) [
      | inl stands ↦ (kept.there stands).held
      | inr shut ↦
          let gone = kept.gone shut in
          subst (λ (p : Packing). Holds (record_tag game) (numbers_of p) world.storage.pool) (sym gone.none) gone.held
    ]

are_apart : (cap blocks : ℕ) (world : World) (game : ℕ) → IsSoundWorld cap blocks world → game < length world.lanes → AreApart (packing_in world game)
are_apart cap blocks world game sound here =
    let kept = sound.stored.kept game here in
    elim (cases_Bool (lane_of world.lanes game).is_open) [
      | inl stands ↦ (kept.there stands).apart
      | inr shut ↦ subst AreApart (sym (kept.gone shut).none) apart_none
    ]

blocks_differ : (cap blocks : ℕ) (world : World) (game other : ℕ) → IsSoundWorld cap blocks world → game < length world.lanes → other < length world.lanes
    → game ≢ other → All (λ number. All (λ n. n ≢ number) (numbers_in world other)) (numbers_in world game)
blocks_differ cap blocks world game other sound here there differ k d within =
    of_others (record_tag other) (record_tag game) _ (numbers_in world other) world.storage.pool (λ same. differ (omega (arith, same)))
    (holds_own cap blocks world other sound there).owned.each ((holds_own cap blocks world game sound here).owned.each k d within)

-- each place is in a block of its stay
records_differ : (cap blocks : ℕ) (world : World) (game other : ℕ) → IsSoundWorld cap blocks world → game < length world.lanes → other < length world.lanes
    → game ≢ other → All (λ p. All (λ q. q.number ≢ p.number) (packing_in world other).places) (packing_in world game).places
records_differ cap blocks world game other sound here there differ k d within i d' within' =
    let p = slice_index_or (packing_in world game).places k d in
    let q = slice_index_or (packing_in world other).places i d' in
    let numbers = blocks_differ cap blocks world game other sound here there differ in
    let mine = ((are_apart cap blocks world game sound here).inside k d within).block in
    let others = ((are_apart cap blocks world other sound there).inside i d' within').block in
    let beside : All (λ n. n ≢ p.number) (numbers_in world other)
    = All-contains (λ number. All (λ n. n ≢ number) (numbers_in world other)) (numbers_in world game) p.number numbers mine in
    All-contains (λ n. n ≢ p.number) (numbers_in world other) q.number beside others

frames_differ : (cap blocks : ℕ) (world : World) (game other : ℕ) → IsSoundWorld cap blocks world → game < length world.lanes → other < length world.lanes
    → game ≢ other → All (λ number. All (λ n. n ≢ number) (frames_in world other)) (frames_in world game)
frames_differ cap blocks world game other sound here there differ k d within =
    of_others (frame_tag other) (frame_tag game) _ (frames_in world other) world.storage.pool (λ same. differ (omega (arith, same)))
    (sound.parts.each other there).held.owned.each ((sound.parts.each game here).held.owned.each k d within)

frames_beside : (cap blocks : ℕ) (world : World) (game other : ℕ) → IsSoundWorld cap blocks world → game < length world.lanes → other < length world.lanes
    → All (λ number. All (λ n. n ≢ number) (numbers_in world other)) (frames_in world game)
frames_beside cap blocks world game other sound here there k d within =
    of_others (record_tag other) (frame_tag game) _ (numbers_in world other) world.storage.pool (λ same. absurd (omega (arith, same)))
    (holds_own cap blocks world other sound there).owned.each ((sound.parts.each game here).held.owned.each k d within)

shares_blocks : (setting : Setting) (world : World) → IsSoundWorld setting.cap setting.blocks world → SharesBlocks setting world
shares_blocks setting world sound =
    let cap = setting.cap in
    let blocks = setting.blocks in
    let pool = world.storage.pool in
    record {
      size = sound.stored.numbers;
      counts = sound.stored.counts;
      closed = λ game less shut.
          let mine = sound.parts.each game less in (
            ((sound.stored.kept game less).gone shut).none,
            none_quiet (lane_of world.lanes game) (numbers_at world.storage.frames game) ((sound.well game less).closed shut) mine.begun,
          );
      apart = λ game other here there differ. blocks_differ cap blocks world game other sound here there differ;
      records_apart = λ game other here there differ. records_differ cap blocks world game other sound here there differ;
      empty = sound.stored.wiped;
      frames = λ game within. (sound.parts.each game within).held;
      frames_apart = λ game other here there differ. frames_differ cap blocks world game other sound here there differ;
      frames_hold_none = λ game other here there. frames_beside cap blocks world game other sound here there;
      few_frames = λ game within.
          let few = few_numbers (lane_of world.lanes game) (numbers_at world.storage.frames game) (sound.well game within).right (sound.parts.each game within).begun in
          let less = length_known (numbers_at world.storage.frames game) in
          omega (arith, few, less);
      idle = λ game within resting. none_idle (lane_of world.lanes game) (numbers_at world.storage.frames game) resting (sound.parts.each game within).begun;
      reserved = sound.reserved.within;
      room = sound.reserved.room;
      drawn = λ worker game p on.
          let e = event.Take worker (record { game = game; kind = kind.Part; part = p }) in
          let is = met setting world.lanes e refl on in
          let x = lane_of world.lanes game in
          frame_there cap blocks (all_framed world.storage.frames) world.lanes world.storage.packings world.storage.frames pool world.memory sound.stored sound.reserved
          sound.parts sound.well game p is.within (open_when x e (sound.well game is.within) is.allowed) is.allowed;
      draws = λ e there on.
          let is = met setting world.lanes e there on in
          let x = lane_of world.lanes (game_of e) in
          let well = sound.well (game_of e) is.within in
          can_draw cap blocks (all_framed world.storage.frames) world.lanes world.storage.packings world.storage.frames pool world.memory sound.stored sound.reserved sound.parts
          sound.well (effect_at e x) (game_of e) is.within (open_when x e well is.allowed) (fits_now x e well.right is.allowed);
    }

keeps_bytes : (cap blocks : ℕ) (world : World) (game : ℕ) → IsSoundWorld cap blocks world → game < length world.lanes → KeepsBytes cap world game
keeps_bytes cap blocks world game sound within =
    let x = lane_of world.lanes game in
    let kept = sound.stored.kept game within in
    elim (cases_Bool x.is_open) [
      | inl stands ↦
          record {
            bytes = (kept.there stands).laid.reads ∙ sym (cond-true x.is_open (records_of x.game) [] stands);
            places = are_apart cap blocks world game sound within;
            own = holds_own cap blocks world game sound within;
            few = few_of cap (record_tag game) x (packing_in world game) world.storage.pool world.memory sound.stored.wide (kept.there stands);
          }
      | inr shut ↦
          let none = (kept.gone shut).none in
          record {
            bytes = ap (λ (p : Packing). map (bytes_at world.memory) p.places) none ∙ sym (cond-false x.is_open (records_of x.game) [] shut);
            places = are_apart cap blocks world game sound within;
            own = holds_own cap blocks world game sound within;
            few = let nothing = ap (λ (p : Packing). length (numbers_of p)) none in omega (arith, nothing);
          }
    ]

-- an event that does not name a stay

packing_of_changed : (cap : ℕ) (world : World) (e : Event) (game : ℕ) → game_of e ≢ game → packing_in (world_changed cap world e) game ≡ packing_in world game
packing_of_changed cap world (event.Hand row command) game other =
    get_or-set_other world.storage.packings row game (new_packing cap world (event.Hand row command)) no_packing (λ same. other (sym same))
packing_of_changed cap world (event.Take worker job) game other =
    get_or-set_other world.storage.packings job.game game (new_packing cap world (event.Take worker job)) no_packing (λ same. other (sym same))
packing_of_changed cap world (event.Put worker job) game other =
    get_or-set_other world.storage.packings job.game game (new_packing cap world (event.Put worker job)) no_packing (λ same. other (sym same))
packing_of_changed cap world (event.Admit row) game other =
    get_or-set_other world.storage.packings 0 game (new_packing cap world (event.Admit row)) no_packing (λ same. other (sym same))
packing_of_changed cap world (event.Leave row) game other =
    get_or-set_other world.storage.packings row game (new_packing cap world (event.Leave row)) no_packing (λ same. other (sym same))

packing_stays : (setting : Setting) (world : World) (game : ℕ) (e : Event) → length world.storage.packings ≡ length world.lanes → game < length world.lanes → is_named game e ≡ false
    → packing_in (world_step setting world e) game ≡ packing_in world game
packing_stays setting world game e many within other =
    elim (cases_step setting world.lanes e) [
      | inl stays ↦ ap (λ (w : World). packing_in w game) (world_refused setting world e stays.off)
      | inr (inl comes) ↦
          ap (λ (w : World). packing_in w game) (world_comes setting world e comes)
          ∙ get_or_append_left world.storage.packings (no_packing ∷ []) no_packing game (omega (arith, many, within))
      | inr (inr changes) ↦
          ap (λ (w : World). packing_in w game) (world_changes setting world e changes)
          ∙ packing_of_changed setting.cap world e game (named_not game e other changes.there)
    ]

bytes_of_lanes : (setting : Setting) (world : World) (game : ℕ) (e : Event) → IsSoundWorld setting.cap setting.blocks world → game < length world.lanes → HandsFit e
    → is_named game e ≡ false → bytes_in (world_step setting world e) game ≡ bytes_in world game
bytes_of_lanes setting world game e sound within fit other =
    let new = world_step setting world e in
    let same : lane_of new.lanes game ≡ lane_of world.lanes game
    = ap (λ (ls : List Lane). lane_of ls game) (lanes_step setting world e) ∙ others_leave setting world.lanes game within e other in
    let many = ap length (lanes_step setting world e) in
    let more = grows setting world.lanes e in
    let after = keeps_bytes setting.cap setting.blocks new game (sound_step setting world e fit sound) (omega (arith, within, many, more)) in
    let before = keeps_bytes setting.cap setting.blocks world game sound within in
    after.bytes ∙ ap kept_of same ∙ sym before.bytes

-- queuing a command and admitting a stay change no byte
bytes_stay : (setting : Setting) (world : World) (game : ℕ) (e : Event) → IsSoundWorld setting.cap setting.blocks world → game < length world.lanes → is_named game e ≡ false
    → bytes_in (world_step setting world e) game ≡ bytes_in world game
bytes_stay setting world game (event.Hand row command) sound within other =
    let e = event.Hand row command in
    let packing = packing_stays setting world game e sound.stored.many within other in
    elim (cases_Bool (is_enabled setting world.lanes e)) [
      | inl on ↦
          ap (λ (w : World). map (bytes_at w.memory) (packing_in (world_step setting world e) game).places) (world_enabled setting world e on)
          ∙ ap (λ (p : Packing). map (bytes_at world.memory) p.places) packing
      | inr off ↦ ap (λ (w : World). bytes_in w game) (world_refused setting world e off)
    ]
bytes_stay setting world game (event.Take worker job) sound within other = bytes_of_lanes setting world game (event.Take worker job) sound within tt other
bytes_stay setting world game (event.Put worker job) sound within other = bytes_of_lanes setting world game (event.Put worker job) sound within tt other
bytes_stay setting world game (event.Admit row) sound within other =
    let e = event.Admit row in
    let packing = packing_stays setting world game e sound.stored.many within other in
    elim (cases_Bool (is_enabled setting world.lanes e)) [
      | inl on ↦
          ap (λ (w : World). map (bytes_at w.memory) (packing_in (world_step setting world e) game).places) (world_enabled setting world e on)
          ∙ ap (λ (p : Packing). map (bytes_at world.memory) p.places) packing
      | inr off ↦ ap (λ (w : World). bytes_in w game) (world_refused setting world e off)
    ]
bytes_stay setting world game (event.Leave row) sound within other = bytes_of_lanes setting world game (event.Leave row) sound within tt other

-- the stay by itself

fit_alone : (e : Event) → HandsFit e → HandsFit (alone_event e)
fit_alone (event.Hand game command) fit = fit
fit_alone (event.Take worker job) fit = fit
fit_alone (event.Put worker job) fit = fit
fit_alone (event.Admit row) fit = fit
fit_alone (event.Leave game) fit = fit

accepted_fit : (setting : Setting) (game : ℕ) (lanes : List Lane) (events : List Event) → All HandsFit events → All HandsFit (accepted setting game lanes events)
accepted_fit setting game lanes [] fit = All-nil HandsFit
accepted_fit setting game lanes (e ∷ events) fit =
    let next = step setting lanes e in
    let own = accepted setting game next events in
    let rest = accepted_fit setting game next events (All-tail HandsFit e events fit) in
    elim (cases_Bool (is_accepted setting game lanes e)) [
      | inl on ↦
          subst (All HandsFit) (sym (cond-true (is_accepted setting game lanes e) (alone_event e ∷ own) own on))
          (All-cons HandsFit (alone_event e) own (fit_alone e (All-head HandsFit e events fit)) rest)
      | inr off ↦ subst (All HandsFit) (sym (cond-false (is_accepted setting game lanes e) (alone_event e ∷ own) own off)) rest
    ]

-- each row that was made is within the limits, and its blocks fit into the pool
record FitsSetting (setting : Setting) (row : GameRow) : Type 0 where
  fit : is_fit_row row ≡ true
  small : blocks_of setting.cap row ≤ setting.blocks

abbrev FitSetting : Setting → List Lane → Type 0
FitSetting setting lanes = (game : ℕ) → game < length lanes → FitsSetting setting (its_row (lane_of lanes game))

fit_setting_step : (setting : Setting) (lanes : List Lane) (e : Event) → HandsFit e → FitSetting setting lanes → FitSetting setting (step setting lanes e)
fit_setting_step setting lanes e fits fit_setting game within =
    elim (cases_step setting lanes e) [
      | inl stays ↦
          let same = ap length stays.is in
          rw stays.is (fit_setting game (omega (arith, same, within)))
      | inr (inl comes) ↦
          let more = ap length comes.is ∙ length_push lanes (comer e) in
          let tests = and_both (not (is_full lanes)) (nat_le (blocks_of setting.cap (row_in e)) (setting.blocks - open_blocks setting.cap lanes))
          (and_both (not (list_any (has_name (row_in e)) lanes)) _ comes.may).1 in
          let small : blocks_of setting.cap (row_in e) ≤ setting.blocks - open_blocks setting.cap lanes = leb-true _ _ tests.1 in
          rw comes.is (elim (cases_lt game (length lanes)) [
            | inl less ↦ rw (get_or_append_left lanes (comer e ∷ []) no_lane game less) (fit_setting game less)
            | inr past ↦
                rw (get_or_push lanes (comer e) no_lane game (omega (arith, more, past, within)))
                (record { fit = fit_comer e fits comes.admits; small = omega (arith, small) })
          ])
      | inr (inr changes) ↦
          let same = ap length changes.is ∙ length-set lanes (game_of e) (changed lanes e) in
          rw (keeps_row setting lanes e game (omega (arith, same, within))) (fit_setting game (omega (arith, same, within)))
    ]

fit_setting_run : (setting : Setting) (lanes : List Lane) (events : List Event) → All HandsFit events → FitSetting setting lanes → FitSetting setting (run_of setting lanes events)
fit_setting_run setting lanes [] fit fit_setting = fit_setting
fit_setting_run setting lanes (e ∷ events) fit fit_setting =
    fit_setting_run setting (step setting lanes e) events (All-tail HandsFit e events fit) (fit_setting_step setting lanes e (All-head HandsFit e events fit) fit_setting)

fit_setting_opened : (setting : Setting) (rows : List GameRow) → IsHosted setting rows → FitSetting setting (opened_lanes rows)
fit_setting_opened setting rows hosted game less =
    let many : length (opened_lanes rows) ≡ length rows = length-map rows empty_lane in
    let within : game < length rows = omega (arith, less, many) in
    let row = slice_index_or rows game (row_of [] 0) in
    let one : blocks_of setting.cap row ≤ blocks_of_all setting.cap rows = get_or-le-sum_by (blocks_of setting.cap) rows game (row_of [] 0) within in
    let room = hosted.room in
    rw (opened_lane rows game)
    (record { fit = All-get_or (λ r. is_fit_row r ≡ true) rows game (row_of [] 0) within hosted.plan.rows_fit; small = omega (arith, one, room) })

pub lone_hosted : (setting : Setting) (rows : List GameRow) (events : List Event) (game : ℕ) → IsHosted setting rows → All HandsFit events
    → game < length (shared_run setting rows events) → IsHosted setting (row_made setting rows events game ∷ [])
lone_hosted setting rows events game hosted fit there =
    let row = row_made setting rows events game in
    let P : GameRow → Type 0 = λ r. is_fit_row r ≡ true in
    let is = fit_setting_run setting (opened_lanes rows) events fit (fit_setting_opened setting rows hosted) game there in
    let sum : blocks_of_all setting.cap (row ∷ []) ≡ blocks_of setting.cap row + blocks_of_all setting.cap [] = sum_by-cons (blocks_of setting.cap) row [] in
    let small = is.small in
    record {
      wide = hosted.wide;
      plan = record { rows_fit = All-cons P row [] is.fit (All-nil P); distinct = refl; few = omega arith };
      room = omega (arith, sum, small);
    }

within_run : (setting : Setting) (rows : List GameRow) (events : List Event) (game : ℕ) → game < length (shared_run setting rows events)
    → game < length (shared_world setting rows events).lanes
within_run setting rows events game there = let lanes = ap length (lanes_run setting (opened_world setting rows) events) in omega (arith, lanes, there)

isolated : (setting : Setting) (rows : List GameRow) (events : List Event) (game : ℕ) → IsHosted setting rows → All HandsFit events
    → game < length (shared_run setting rows events) → IsIsolatedInMemory setting rows events game
isolated setting rows events game hosted fit there =
    let cap = setting.cap in
    let blocks = setting.blocks in
    let world = shared_world setting rows events in
    let sound = sound_shared setting rows events hosted fit in
    let lanes : world.lanes ≡ shared_run setting rows events = lanes_run setting (opened_world setting rows) events in
    let here : game < length world.lanes = within_run setting rows events game there in
    let keeps = keeps_bytes cap blocks world game sound here in
    let own = own_events setting rows events game in
    let row = row_made setting rows events game in
    let lone = lone_world setting rows events game in
    let lone_sound = sound_shared setting (row ∷ []) own (lone_hosted setting rows events game hosted fit there) (accepted_fit setting game (opened_lanes rows) events fit) in
    let lone_lanes_are : lone.lanes ≡ lone_run setting rows events game = lanes_run setting (opened_world setting (row ∷ [])) own in
    let first : length (opened_lanes (row ∷ [])) ≤ length (lone_run setting rows events game) = grows_run setting (opened_lanes (row ∷ [])) own in
    let lone_keeps = keeps_bytes cap blocks lone 0 lone_sound (within_run setting (row ∷ []) own 0 (omega (arith, first))) in
    let same = (runs_alone setting rows events game there).records in
    record {
      keeps = keeps;
      alone = lone_keeps.bytes
          ∙ ap (λ (ls : List Lane). kept_of (lane_of ls 0)) lone_lanes_are
          ∙ same
          ∙ ap (λ (ls : List Lane). kept_of (lane_of ls game)) (sym lanes)
          ∙ sym keeps.bytes;
      others = λ e other.
          record {
            packing = packing_stays setting world game e sound.stored.many here other;
            bytes = bytes_stay setting world game e sound here other;
          };
    }

pub memory_law : MemoryLaw
memory_law setting rows events hosted fit =
    record {
      core = core_runs_along setting (opened setting.cap setting.blocks setting.workers rows) (opened_world setting rows) events;
      lanes = lanes_run setting (opened_world setting rows) events;
      blocks_shared = shares_blocks setting (shared_world setting rows events) (sound_shared setting rows events hosted fit);
      games = λ game there. isolated setting rows events game hosted fit there;
    }
