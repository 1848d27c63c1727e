-- All jobs of a core of one game on its storage, beside the same jobs on the storage of all.
use Rattle.std.proofs.Common.{◌≡◌, ℕ, true, List, [], ◌∷◌, ◌++◌, length, map, Option, Some, refl, sym, ap, subst, ◌∙◌}
use Rattle.std.proofs.lemmas.Bool.{cond-true}
use Rattle.bs_board.proofs.Chains.{and_both}
use Rattle.bs_board.specs.declared.commands.command.Command.{Command}
use Rattle.bs_fiber.specs.declared.job.JobKind.{JobKind}
use Rattle.bs_fiber.specs.declared.job.JobKind.TheVariants as kind
use Rattle.bs_heap.specs.HeldBlocks.{next_number}
use Rattle.bs_heap.specs.Packing.{Packing}
use Rattle.bs_pool.specs.declared.reservation.Reservation.{Reservation}
use Rattle.bs_pool.specs.Ledger.{least_free}
use Rattle.bs_sched.specs.declared.event.Event.{Event}
use Rattle.bs_sched.specs.declared.event.Event.TheVariants as event
use Rattle.bs_sched.specs.Assembly.{Hand, hand_event, job_at, jobs_at}
use Rattle.bs_sched.specs.Games.{GamesView, after, storage_after, storage_put, storage_taken}
use Rattle.bs_sched.specs.Isolation.{are_enabled}
use Rattle.bs_sched.specs.Lane.{Lane, with_taken, with_put}
use Rattle.bs_sched.specs.Machine.{Setting, lane_of, is_enabled, lane_effect, step, run_of}
use Rattle.bs_sched.specs.Memory.{effect_at, games_run}
use Rattle.bs_sched.specs.Storage.{Storage}
use Rattle.bs_sched.proofs.LoneLanes.{step_enabled}
use Rattle.bs_sched.proofs.ApartLanes.{AreFree, lane_stepped, take_step, put_step, one_lane, at}
use Rattle.bs_sched.proofs.ApartStep.{IsLone, CanStore, beside, put_beside, taken_beside, put_lone, taken_lone}

-- the storage after events that are all enabled
abbrev pub storage_run : ℕ → Setting → List Event → List Lane → Storage → Storage
storage_run cap setting [] lanes storage = storage
storage_run cap setting (e ∷ events) lanes storage = storage_run cap setting events (step setting lanes e) (storage_after cap e lanes storage)

-- these are the games of a core after its journal
pub games_law : (setting : Setting) (games : GamesView) (events : List Event) → are_enabled setting games.lanes events ≡ true
    → games_run setting games events ≡ record games { lanes = run_of setting games.lanes events; storage = storage_run setting.cap setting events games.lanes games.storage }
games_law setting games [] on = refl
games_law setting games (e ∷ events) on =
    let both = and_both _ _ on in
    let next = after setting.cap games e in
    let same : lane_effect games.lanes e ≡ step setting games.lanes e = sym (step_enabled setting games.lanes e both.0) in
    let later : are_enabled setting (lane_effect games.lanes e) events ≡ true = ap (λ (ls : List Lane). are_enabled setting ls events) same ∙ both.1 in
    ap (λ (g : GamesView). games_run setting g events) (cond-true (is_enabled setting games.lanes e) next games both.0)
    ∙ games_law setting next events later
    ∙ ap (λ (ls : List Lane). record games { lanes = run_of setting ls events; storage = storage_run setting.cap setting events ls (storage_after setting.cap e games.lanes games.storage) }) same

-- commands leave the storage

pub after_hands : (cap : ℕ) (setting : Setting) (hands : List Hand) (later : List Event) (lanes : List Lane) (s : Storage)
    → storage_run cap setting (map hand_event hands ++ later) lanes s ≡ storage_run cap setting later (run_of setting lanes (map hand_event hands)) s
after_hands cap setting [] later lanes s = refl
after_hands cap setting (hand ∷ hands) later lanes s = after_hands cap setting hands later (step setting lanes (hand_event hand)) s

pub after_commands : (cap : ℕ) (setting : Setting) (commands : List Command) (later : List Event) (lanes : List Lane) (s : Storage)
    → storage_run cap setting (map (event.Hand 0) commands ++ later) lanes s ≡ storage_run cap setting later (run_of setting lanes (map (event.Hand 0) commands)) s
after_commands cap setting [] later lanes s = refl
after_commands cap setting (command ∷ commands) later lanes s = after_commands cap setting commands later (step setting lanes (event.Hand 0 command)) s

pub storage_run_after : (cap : ℕ) (setting : Setting) (events later : List Event) (lanes : List Lane) (s : Storage)
    → storage_run cap setting (events ++ later) lanes s ≡ storage_run cap setting later (run_of setting lanes events) (storage_run cap setting events lanes s)
storage_run_after cap setting [] later lanes s = refl
storage_run_after cap setting (e ∷ events) later lanes s = storage_run_after cap setting events later (step setting lanes e) (storage_after cap e lanes s)

-- what each job needs, in its place

pub record CanStep (cap : ℕ) (e : Event) (lanes : List Lane) (s : Storage) : Type 0 where
  pub store : CanStore cap (effect_at e (lane_of lanes 0)) s
  pub frame : (worker part : ℕ) → e ≡ event.Take worker (record { game = 0; kind = kind.Part; part = part }) → least_free s.pool ≡ Some (next_number s.pool)

abbrev pub CanRun : ℕ → Setting → List Event → List Lane → Storage → Type 0
CanRun cap setting [] lanes s = Unit {0}
CanRun cap setting (e ∷ events) lanes s = CanStep cap e lanes s × CanRun cap setting events (step setting lanes e) (storage_after cap e lanes s)

module _ (cap : ℕ) (mine all : Setting) (same : mine.workers ≡ all.workers) (done rest : List Lane) (free : AreFree done) (next : AreFree rest)
    (before : List (Option ℕ)) (rs : List Reservation) (done_packings rest_packings : List Packing) (done_frames rest_frames : List (List (Option ℕ)))
    (many_packings : length done_packings ≡ length done) (many_frames : length done_frames ≡ length done) where
  abbrev all_storage : Storage → Storage
  all_storage = beside (length done) before rs done_packings rest_packings done_frames rest_frames many_packings many_frames

  -- the jobs lead to the same storage, laid into that of all
  abbrev pub StoresBeside : Lane → Storage → List Event → List Event → Type 0
  StoresBeside x s own whole =
      storage_run cap all whole (done ++ x ∷ rest) (all_storage s) ≡ all_storage (storage_run cap mine own (x ∷ []) s)

  pub jobs_stored : (journal : List Event) (x : Lane) (s : Storage) → IsLone s → CanRun cap mine (jobs_at 0 journal) (x ∷ []) s
      → StoresBeside x s (jobs_at 0 journal) (jobs_at (length done) journal)
  jobs_stored [] x s lone can = refl
  jobs_stored (event.Hand game command ∷ journal) x s lone can = jobs_stored journal x s lone can
  jobs_stored (event.Take worker job ∷ journal) x s lone can =
      let e = event.Take worker (job_at 0 job) in
      let y = lane_stepped mine x e in
      let t = storage_taken job.kind 0 job.part s in
      let one : step mine (x ∷ []) e ≡ y ∷ [] = one_lane mine all same done rest free next x (with_taken worker job.kind job.part x) (is_enabled mine (x ∷ []) e) in
      let here : storage_taken job.kind (length done) job.part (all_storage s) ≡ all_storage t
      = taken_beside (length done) before rs done_packings rest_packings done_frames rest_frames many_packings many_frames job.kind job.part s lone
      (λ is. can.0.frame worker job.part (ap (λ (k : JobKind). event.Take worker (record { game = 0; kind = k; part = job.part })) is)) in
      let later = jobs_stored journal y t (taken_lone job.kind job.part s lone) (subst (λ ls. CanRun cap mine (jobs_at 0 journal) ls t) one can.1) in
      ap (λ ls. storage_run cap all (jobs_at (length done) journal) ls (storage_taken job.kind (length done) job.part (all_storage s)))
      (take_step mine all same done rest free next x worker job)
      ∙ ap (storage_run cap all (jobs_at (length done) journal) (done ++ y ∷ rest)) here
      ∙ later
      ∙ ap (λ ls. all_storage (storage_run cap mine (jobs_at 0 journal) ls t)) (sym one)
  jobs_stored (event.Put worker job ∷ journal) x s lone can =
      let e = event.Put worker (job_at 0 job) in
      let y = lane_stepped mine x e in
      let t = storage_put job.kind cap 0 x s in
      let one : step mine (x ∷ []) e ≡ y ∷ [] = one_lane mine all same done rest free next x (with_put job.kind job.part x) (is_enabled mine (x ∷ []) e) in
      let here : storage_put job.kind cap (length done) (lane_of (done ++ x ∷ rest) (length done)) (all_storage s) ≡ all_storage t
      = ap (λ z. storage_put job.kind cap (length done) z (all_storage s)) (at mine all same done rest free next x)
      ∙ put_beside (length done) before rs done_packings rest_packings done_frames rest_frames many_packings many_frames cap x job.kind s lone can.0.store in
      let later = jobs_stored journal y t (put_lone cap x job.kind s lone) (subst (λ ls. CanRun cap mine (jobs_at 0 journal) ls t) one can.1) in
      ap (λ ls. storage_run cap all (jobs_at (length done) journal) ls (storage_put job.kind cap (length done) (lane_of (done ++ x ∷ rest) (length done)) (all_storage s)))
      (put_step mine all same done rest free next x worker job)
      ∙ ap (storage_run cap all (jobs_at (length done) journal) (done ++ y ∷ rest)) here
      ∙ later
      ∙ ap (λ ls. all_storage (storage_run cap mine (jobs_at 0 journal) ls t)) (sym one)
  jobs_stored (event.Admit new ∷ journal) x s lone can = jobs_stored journal x s lone can
  jobs_stored (event.Leave game ∷ journal) x s lone can = jobs_stored journal x s lone can
