-- The jobs of one stay among others that are idle: in the core of all stays they lead to what they
-- lead to in its own.
use Rattle.std.proofs.Common.{◌≡◌, ℕ, suc, ◌<◌, ◌≤◌, true, List, [], ◌∷◌, ◌++◌, length, Option, refl, sym, ap, subst, ◌∙◌, arith}
use Rattle.std.specs.Prelude.{count_by}
use Rattle.std.proofs.lemmas.Bool.{or_from, or_parts}
use Rattle.std.proofs.lemmas.List.Folds.{list_any-append}
use Rattle.bs_board.specs.declared.commands.command.Command.{Command}
use Rattle.bs_board.specs.plans.Plan.{GameRow}
use Rattle.bs_heap.specs.Packing.{Packing, no_packing}
use Rattle.bs_pool.specs.declared.reservation.Reservation.{Reservation}
use Rattle.bs_pool.specs.Ledger.{ledger_of, is_unowned, size}
use Rattle.bs_pool.proofs.Woven.{fresh_woven}
use Rattle.bs_sched.specs.declared.event.Event.{Event}
use Rattle.bs_sched.specs.declared.event.Event.TheVariants as event
use Rattle.bs_sched.specs.Assembly.{RanAlone, jobs_at, job_at, own_lane, tag_at}
use Rattle.bs_sched.specs.Core.{CoreView}
use Rattle.bs_sched.specs.Games.{storage_put, storage_taken}
use Rattle.bs_sched.specs.Isolation.{are_enabled}
use Rattle.bs_sched.specs.Journal.{setting_in}
use Rattle.bs_sched.specs.Lane.{Lane, empty_lane, is_idle, occupies}
use Rattle.bs_sched.specs.Machine.{Setting, lane_of, run_of, step}
use Rattle.bs_sched.specs.Storage.{Storage}
use Rattle.bs_sched.proofs.ApartLanes.{AreFree, GoesBeside, jobs_beside, queued}
use Rattle.bs_sched.proofs.ApartNeeds.{first_storage, own_storage}
use Rattle.bs_sched.proofs.ApartRows.{idle_begins, own_jobs}
use Rattle.bs_sched.proofs.ApartRun.{jobs_stored, storage_run}
use Rattle.bs_sched.proofs.ApartStep.{IsLone, beside, put_lone, taken_lone}

-- no worker is busy

pub all_free : (lanes : List Lane) → ((k : ℕ) → k < length lanes → is_idle (lane_of lanes k).stage ≡ true) → AreFree lanes
all_free [] idle worker = refl
all_free (x ∷ lanes) idle worker =
    or_from _ _ (idle_begins worker x.stage (idle 0 (omega arith))) (all_free lanes (λ k less. idle (suc k) (omega (arith, less))) worker)

pub free_before : (done rest : List Lane) (x : Lane) → AreFree (done ++ x ∷ rest) → AreFree done
free_before done rest x free worker = (or_parts _ _ (sym (list_any-append (occupies worker) done (x ∷ rest)) ∙ free worker)).0

pub free_behind : (done rest : List Lane) (x : Lane) → AreFree (done ++ x ∷ rest) → AreFree rest
free_behind done rest x free worker =
    (or_parts _ _ (or_parts _ _ (sym (list_any-append (occupies worker) done (x ∷ rest)) ∙ free worker)).1).1

-- the storage of a core of one stay

lone_run : (cap : ℕ) (setting : Setting) (journal : List Event) (lanes : List Lane) (s : Storage) → IsLone s
    → IsLone (storage_run cap setting (jobs_at 0 journal) lanes s)
lone_run cap setting [] lanes s lone = lone
lone_run cap setting (event.Hand game command ∷ journal) lanes s lone = lone_run cap setting journal lanes s lone
lone_run cap setting (event.Take worker job ∷ journal) lanes s lone =
    lone_run cap setting journal (step setting lanes (event.Take worker (job_at 0 job))) (storage_taken job.kind 0 job.part s)
    (taken_lone job.kind job.part s lone)
lone_run cap setting (event.Put worker job ∷ journal) lanes s lone =
    lone_run cap setting journal (step setting lanes (event.Put worker (job_at 0 job))) (storage_put job.kind cap 0 (lane_of lanes 0) s)
    (put_lone cap (lane_of lanes 0) job.kind s lone)
lone_run cap setting (event.Admit new ∷ journal) lanes s lone = lone_run cap setting journal lanes s lone
lone_run cap setting (event.Leave game ∷ journal) lanes s lone = lone_run cap setting journal lanes s lone

pub lone_core : (cap workers : ℕ) (row : GameRow) (commands : List Command) (core : CoreView) → RanAlone cap workers row commands core
    → IsLone core.games.storage
lone_core cap workers row commands core alone =
    subst IsLone (own_storage cap workers row commands core alone).storage
    (lone_run cap (setting_in cap core) core.journal (queued commands (empty_lane row) ∷ []) (first_storage cap row core) refl)

-- the jobs of one stay

module _ (cap workers : ℕ) (all : Setting) (same : all.workers ≡ workers) (rs : List Reservation) (done rest : List Lane) (free : AreFree done) (after : AreFree rest)
    (done_packings rest_packings : List Packing) (done_frames rest_frames : List (List (Option ℕ))) (many_packings : length done_packings ≡ length done)
    (many_frames : length done_frames ≡ length done) (owners : List (Option ℕ)) where
  -- the storage while the stay has no record
  abbrev pub storage_before : Storage
  storage_before = record {
    packings = done_packings ++ no_packing ∷ rest_packings;
    frames = done_frames ++ [] ∷ rest_frames;
    pool = ledger_of owners rs;
  }

  -- that of its core, laid into the storage of all
  abbrev pub storage_laid : Storage → Storage
  storage_laid = beside (length done) owners rs done_packings rest_packings done_frames rest_frames many_packings many_frames

  pub record StayBeside (row : GameRow) (commands : List Command) (core : CoreView) : Type 0 where
    pub enabled : are_enabled all (done ++ queued commands (empty_lane row) ∷ rest) (jobs_at (length done) core.journal) ≡ true
    pub lanes : run_of all (done ++ queued commands (empty_lane row) ∷ rest) (jobs_at (length done) core.journal) ≡ done ++ own_lane core ∷ rest
    pub storage : storage_run cap all (jobs_at (length done) core.journal) (done ++ queued commands (empty_lane row) ∷ rest) storage_before
        ≡ storage_laid core.games.storage

  pub stay_beside : (row : GameRow) (commands : List Command) (core : CoreView) → RanAlone cap workers row commands core
      → size core.games.storage.pool ≤ count_by is_unowned owners → StayBeside row commands core
  stay_beside row commands core alone room =
      let mine = setting_in cap core in
      let x = queued commands (empty_lane row) in
      let workers_same : mine.workers ≡ all.workers = alone.workers_same ∙ sym same in
      let goes : GoesBeside mine all workers_same done rest free after x (jobs_at 0 core.journal) (jobs_at (length done) core.journal)
      = jobs_beside mine all workers_same done rest free after core.journal x in
      let own = own_jobs cap workers row commands core alone in
      let fresh = fresh_woven (tag_at (length done)) owners (size core.games.storage.pool) room in
      let kept = own_storage cap workers row commands core alone in
      let stored = jobs_stored cap mine all workers_same done rest free after owners rs done_packings rest_packings done_frames rest_frames
      many_packings many_frames core.journal x (first_storage cap row core) refl kept.can in
      record {
        enabled = goes.enabled ∙ own.enabled;
        lanes = goes.lanes ∙ ap (λ z. done ++ z ∷ rest) own.lane;
        storage =
            ap (λ os. storage_run cap all (jobs_at (length done) core.journal) (done ++ x ∷ rest)
            (record { packings = done_packings ++ no_packing ∷ rest_packings; frames = done_frames ++ [] ∷ rest_frames; pool = ledger_of os rs })) (sym fresh)
            ∙ stored ∙ ap storage_laid kept.storage;
      }
