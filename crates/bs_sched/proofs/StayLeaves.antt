-- The jobs of one stay among others that are idle, and then its leave: all its blocks are free
-- again.
use Rattle.std.proofs.Common.{◌≡◌, ℕ, ◌+◌, ◌<◌, ◌≤◌, true, false, List, [], ◌∷◌, ◌++◌, length, replicate, Option, Some, None, refl, sym, ap, subst, ◌∙◌, arith}
use Rattle.std.specs.Prelude.{count_by, slice_set}
use Rattle.std.proofs.lemmas.Bool.{and_from, lt-ltb}
use Rattle.std.proofs.lemmas.List.{get_or-set_same, get_or_at, length-append, length-set, set_at}
use Rattle.std.proofs.lemmas.List.Sums.{count_by-le-length}
use Rattle.bs_board.specs.declared.commands.command.Command.{Command}
use Rattle.bs_board.specs.plans.Plan.{GameRow}
use Rattle.bs_game.specs.declared.reply.Effect.TheVariants as effect
use Rattle.bs_heap.specs.HeldBlocks.{all_given}
use Rattle.bs_heap.specs.Packing.{Packing, no_packing, numbers_of}
use Rattle.bs_pool.specs.declared.reservation.Reservation.{Reservation}
use Rattle.bs_pool.specs.Ledger.{Ledger, free, is_unowned, ledger_of, size}
use Rattle.bs_pool.specs.Woven.{place_in, woven}
use Rattle.bs_pool.proofs.Counts.{count_cons}
use Rattle.bs_pool.proofs.Woven.{fresh_woven}
use Rattle.bs_sched.specs.declared.event.Event.{Event}
use Rattle.bs_sched.specs.declared.event.Event.TheVariants as event
use Rattle.bs_sched.specs.Assembly.{RanAlone, jobs_at, own_frames, own_lane, tag_at}
use Rattle.bs_sched.specs.Core.{CoreView, core_after}
use Rattle.bs_sched.specs.Frames.{flattened}
use Rattle.bs_sched.specs.Games.{GamesView, unreserved_storage, without_stay}
use Rattle.bs_sched.specs.Isolation.{are_enabled}
use Rattle.bs_sched.specs.Journal.{IsItsJournal, setting_in}
use Rattle.bs_sched.specs.Lane.{Lane, closed_lane, empty_lane, may_leave, no_lane}
use Rattle.bs_sched.specs.Machine.{Setting, is_enabled, lane_of, run_of, step}
use Rattle.bs_sched.specs.SharedMemory.{all_framed, all_held, shared_world}
use Rattle.bs_sched.specs.Storage.{Storage, frames_of, packing_of}
use Rattle.bs_sched.proofs.ApartLanes.{AreFree, queued}
use Rattle.bs_sched.proofs.ApartNeeds.{closed_below, frames_stay, held_below}
use Rattle.bs_sched.proofs.ApartRows.{enabled_after, run_after}
use Rattle.bs_sched.proofs.ApartRun.{storage_run, storage_run_after}
use Rattle.bs_sched.proofs.ApartStep.{CanStore, IsLone, lone_storage, renamed_frames, stored_beside}
use Rattle.bs_sched.proofs.Gathered.{one_lane}
use Rattle.bs_sched.proofs.Journaled.{journal_after, keeps_apart, same_setting}
use Rattle.bs_sched.proofs.Led.{holds_blocks}
use Rattle.bs_sched.proofs.LoneLanes.{step_enabled}
use Rattle.bs_sched.proofs.Reserved.{rest_of}
use Rattle.bs_sched.proofs.StayJobs.{StayBeside, lone_core, stay_beside, storage_before, storage_laid}

-- the owners, if as many blocks are free as there are
none_owned : (owners : List (Option ℕ)) → count_by is_unowned owners ≡ length owners → owners ≡ replicate (length owners) None
none_owned [] all = refl
none_owned (None ∷ owners) all = let e = count_cons is_unowned None owners in ap (λ os. None ∷ os) (none_owned owners (omega (arith, all, e)))
none_owned (Some o ∷ owners) all =
    let e = count_cons is_unowned (Some o) owners in
    let few = count_by-le-length is_unowned owners in
    absurd (omega (arith, all, e, few))

-- the blocks of a core of one stay once its records are dropped
none_held : (s : Storage) → IsLone s → flattened (frames_of s 0) ≡ [] → all_held (slice_set s.packings 0 no_packing) + all_framed s.frames ≡ 0
none_held s lone none =
    let frames = frames_of s 0 in
    let split : all_held (slice_set s.packings 0 no_packing) + all_framed s.frames ≡ 0 + (0 + length (flattened frames))
    = ap (λ (t : Storage). all_held (slice_set t.packings 0 no_packing) + all_framed t.frames) lone in
    split ∙ ap (λ (ns : List ℕ). 0 + (0 + length ns)) none

module _ (cap : ℕ) (core : CoreView) (journaled : IsItsJournal cap core) (one : length core.games.lanes ≡ 1) (lone : IsLone core.games.storage)
    (may : may_leave (own_lane core) ≡ true) where
  abbrev left : CoreView
  left = core_after cap core (event.Leave 0)

  has_lane : 0 < length core.games.lanes
  has_lane = omega (arith, one)

  on : is_enabled (setting_in cap core) core.games.lanes (event.Leave 0) ≡ true
  on = rw (lt-ltb 0 (length core.games.lanes) has_lane, may) refl

  left_journal : IsItsJournal cap left
  left_journal = journal_after cap core (event.Leave 0) journaled on (record {})

  -- in its own core all blocks are free once it has left
  pub left_free : (all_given (numbers_of (packing_of core.games.storage 0)) core.games.storage.pool).owners ≡ replicate (size core.games.storage.pool) None
  left_free =
      let keeps = keeps_apart cap left left_journal in
      let w = shared_world (setting_in cap left) left.games.rows left.journal in
      let storage : w.storage ≡ left.games.storage = ap (λ (g : GamesView). g.storage) (sym keeps.memory.core ∙ left_journal.games) in
      let lanes : w.lanes ≡ left.games.lanes = keeps.memory.lanes ∙ keeps.lanes in
      let many : size left.games.storage.pool ≡ size core.games.storage.pool
      = ap (λ (s : Setting). s.blocks) (same_setting cap core (event.Leave 0) journaled on (record {})) in
      let blocks = keeps.memory.blocks_shared in
      let shut : (lane_of left.games.lanes 0).is_open ≡ false
      = ap (λ (x : Lane). x.is_open) (get_or-set_same core.games.lanes 0 (closed_lane (own_lane core)) no_lane has_lane) in
      let long = ap length lanes in
      let long_left = length-set core.games.lanes 0 (closed_lane (own_lane core)) in
      let closed = blocks.closed 0 (let less = has_lane in omega (arith, long, long_left, less)) (ap (λ ls. (lane_of ls 0).is_open) lanes ∙ shut) in
      let none : flattened (frames_of core.games.storage 0) ≡ [] = ap (λ (s : Storage). flattened (frames_of s 0)) (sym storage) ∙ closed.1 in
      let held = none_held core.games.storage lone none in
      let counts : free left.games.storage.pool + (all_held left.games.storage.packings + all_framed left.games.storage.frames) ≡ size left.games.storage.pool
      = ap (λ (s : Storage). free s.pool + (all_held s.packings + all_framed s.frames)) (sym storage) ∙ blocks.counts in
      none_owned left.games.storage.pool.owners (omega (arith, held, counts)) ∙ ap (λ n. replicate n None) many

  pub can_drop : CanStore cap effect.Drop core.games.storage
  can_drop =
      let holds = holds_blocks cap core 0 journaled has_lane in
      let numbers = held_below _ (numbers_of (packing_of core.games.storage 0)) core.games.storage.pool holds.records in
      record {
        draws = record {};
        closed = closed_below _ (packing_of core.games.storage 0) numbers;
        numbers = numbers;
        frames = held_below _ (flattened (frames_of core.games.storage 0)) core.games.storage.pool holds.frames;
      }

module _ (cap workers : ℕ) (all : Setting) (same : all.workers ≡ workers) (rs : List Reservation) (done rest : List Lane) (free : AreFree done) (after : AreFree rest)
    (done_packings rest_packings : List Packing) (done_frames rest_frames : List (List (Option ℕ))) (many_packings : length done_packings ≡ length done)
    (many_frames : length done_frames ≡ length done) (owners : List (Option ℕ)) where
  abbrev before : Storage
  before = storage_before cap workers all same rs done rest free after done_packings rest_packings done_frames rest_frames many_packings many_frames owners

  abbrev laid : Storage → Storage
  laid = storage_laid cap workers all same rs done rest free after done_packings rest_packings done_frames rest_frames many_packings many_frames owners

  -- the storage once the stay has left, with these frame blocks
  abbrev pub storage_left : List (Option ℕ) → Storage
  storage_left f = record {
    packings = done_packings ++ no_packing ∷ rest_packings;
    frames = done_frames ++ f ∷ rest_frames;
    pool = ledger_of owners (rest_of (length done) rs);
  }

  left_laid : (p : Packing) (f : List (Option ℕ)) (pool : Ledger) → CanStore cap effect.Drop (lone_storage p f pool) → renamed_frames (place_in owners) f ≡ f
      → (all_given (numbers_of p) pool).owners ≡ replicate (size pool) None → size pool ≤ count_by is_unowned owners
      → without_stay cap (length done) (laid (lone_storage p f pool)) ≡ storage_left f
  left_laid p f pool can none owned room =
      let woven_free : woven (tag_at (length done)) owners (all_given (numbers_of p) pool).owners ≡ owners
      = ap (woven (tag_at (length done)) owners) owned ∙ fresh_woven (tag_at (length done)) owners (size pool) room in
      ap (unreserved_storage (length done))
      (stored_beside (length done) owners rs done_packings rest_packings done_frames rest_frames many_packings many_frames cap effect.Drop p f pool can)
      ∙ ap (λ (g : List (Option ℕ)). record {
        packings = done_packings ++ no_packing ∷ rest_packings;
        frames = done_frames ++ g ∷ rest_frames;
        pool = ledger_of (woven (tag_at (length done)) owners (all_given (numbers_of p) pool).owners) (rest_of (length done) rs);
      }) none
      ∙ ap (λ (os : List (Option ℕ)). record {
        packings = done_packings ++ no_packing ∷ rest_packings;
        frames = done_frames ++ f ∷ rest_frames;
        pool = ledger_of os (rest_of (length done) rs);
      }) woven_free

  abbrev leave : Event
  leave = event.Leave (length done)

  -- the jobs of a stay, then its leave
  pub record LeavesBeside (row : GameRow) (commands : List Command) (core : CoreView) : Type 0 where
    pub enabled : are_enabled all (done ++ queued commands (empty_lane row) ∷ rest) (jobs_at (length done) core.journal ++ leave ∷ []) ≡ true
    pub lanes : run_of all (done ++ queued commands (empty_lane row) ∷ rest) (jobs_at (length done) core.journal ++ leave ∷ [])
        ≡ done ++ closed_lane (own_lane core) ∷ rest
    pub storage : storage_run cap all (jobs_at (length done) core.journal ++ leave ∷ []) (done ++ queued commands (empty_lane row) ∷ rest) before
        ≡ storage_left (own_frames core)

  leave_on : (y : Lane) → may_leave y ≡ true → is_enabled all (done ++ y ∷ rest) leave ≡ true
  leave_on y may =
      let long = length-append done (y ∷ rest) in
      rw (lt-ltb (length done) (length (done ++ y ∷ rest)) (omega (arith, long)), get_or_at done y rest no_lane (length done) refl, may) refl

  leave_step : (y : Lane) → may_leave y ≡ true → step all (done ++ y ∷ rest) leave ≡ done ++ closed_lane y ∷ rest
  leave_step y may =
      step_enabled all (done ++ y ∷ rest) leave (leave_on y may)
      ∙ ap (λ (z : Lane). slice_set (done ++ y ∷ rest) (length done) (closed_lane z)) (get_or_at done y rest no_lane (length done) refl)
      ∙ set_at done y rest (closed_lane y) (length done) refl

  pub leaves_beside : (row : GameRow) (commands : List Command) (core : CoreView) → RanAlone cap workers row commands core
      → size core.games.storage.pool ≤ count_by is_unowned owners → may_leave (own_lane core) ≡ true → LeavesBeside row commands core
  leaves_beside row commands core alone room may =
      let x = queued commands (empty_lane row) in
      let y = own_lane core in
      let s = core.games.storage in
      let jobs = jobs_at (length done) core.journal in
      let goes : StayBeside cap workers all same rs done rest free after done_packings rest_packings done_frames rest_frames many_packings many_frames owners row commands core
      = stay_beside cap workers all same rs done rest free after done_packings rest_packings done_frames rest_frames many_packings many_frames owners row commands core
      alone room in
      let lone = lone_core cap workers row commands core alone in
      let one = one_lane cap workers row commands core alone in
      let gone : without_stay cap (length done) (laid s) ≡ storage_left (own_frames core)
      = ap (λ (t : Storage). without_stay cap (length done) (laid t)) lone
      ∙ left_laid (packing_of s 0) (frames_of s 0) s.pool (subst (CanStore cap effect.Drop) lone (can_drop cap core alone.journaled one lone may))
      (frames_stay cap workers row commands core (place_in owners) alone) (left_free cap core alone.journaled one lone may) room in
      record {
        enabled = enabled_after all (done ++ x ∷ rest) jobs (leave ∷ [])
            ∙ and_from _ _ goes.enabled (ap (λ ls. are_enabled all ls (leave ∷ [])) goes.lanes ∙ and_from _ _ (leave_on y may) refl);
        lanes = run_after all (done ++ x ∷ rest) jobs (leave ∷ []) ∙ ap (λ ls. run_of all ls (leave ∷ [])) goes.lanes ∙ leave_step y may;
        storage = storage_run_after cap all jobs (leave ∷ []) (done ++ x ∷ rest) before
            ∙ ap (without_stay cap (length done)) goes.storage ∙ gone;
      }
