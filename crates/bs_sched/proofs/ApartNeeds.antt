-- What each job of a core of one game needs is there: the memory law in its place.
use Rattle.std.proofs.Common.{◌≡◌, ℕ, ◌<◌, true, false, List, [], ◌∷◌, ◌++◌, length, map, replicate, Option, Some, None, refl, sym, ap, subst, ◌∙◌, arith, inl, inr}
use Rattle.std.specs.Prelude.{All, option_to_list}
use Rattle.std.proofs.lemmas.Bool.{cases_Bool, cond-true}
use Rattle.std.proofs.lemmas.Option.{slice_get_within}
use Rattle.std.proofs.lemmas.List.{append_assoc, map-append, length-map}
use Rattle.std.proofs.lemmas.List.Elements.{All-nil, All-cons, All-head, All-tail, All-weaker}
use Rattle.std.proofs.lemmas.List.Sums.{fold-append}
use Rattle.bs_board.proofs.Chains.{and_both}
use Rattle.bs_board.specs.declared.commands.command.Command.{Command}
use Rattle.bs_board.specs.plans.Plan.{GameRow}
use Rattle.bs_heap.specs.HeldBlocks.{Holds}
use Rattle.bs_heap.specs.Packing.{Use, Packing, no_packing, numbers_of, closed_numbers}
use Rattle.bs_pool.specs.Ledger.{Ledger, Owns, ledger_of, size}
use Rattle.bs_sched.specs.declared.event.Event.{Event}
use Rattle.bs_sched.specs.declared.event.Event.TheVariants as event
use Rattle.bs_sched.specs.Assembly.{job_at, jobs_at, own_lane, own_frames, RanAlone}
use Rattle.bs_sched.specs.Core.{CoreView}
use Rattle.bs_sched.specs.Games.{GamesView, opened}
use Rattle.bs_sched.specs.Isolation.{HandsFit, are_enabled, opened_lanes}
use Rattle.bs_sched.specs.Journal.{setting_in}
use Rattle.bs_sched.specs.declared.stage.Stage.{Stage}
use Rattle.bs_sched.specs.declared.stage.Stage.TheVariants as stage
use Rattle.bs_sched.specs.Frames.{flattened}
use Rattle.bs_sched.specs.Lane.{empty_lane, is_idle, is_playing}
use Rattle.bs_sched.specs.Machine.{Setting, lane_of, game_of, is_admit, is_enabled, lane_effect, step}
use Rattle.bs_sched.specs.Memory.{World, CanDraw, effect_at, world_after, world_step, world_run, opened_world, games_run}
use Rattle.bs_sched.specs.PlanBlocks.{reservations_of}
use Rattle.bs_sched.specs.SharedMemory.{IsHosted, shared_world, packing_in, numbers_in, frames_in}
use Rattle.bs_sched.specs.Storage.{Storage, packing_of, frames_of}
use Rattle.bs_sched.proofs.LoneLanes.{grows_run, step_enabled}
use Rattle.bs_sched.proofs.MemoryLaw.{memory_law, lanes_run}
use Rattle.bs_sched.proofs.ApartLanes.{queued, hands_alone}
use Rattle.bs_sched.proofs.ApartRows.{own_jobs}
use Rattle.bs_sched.proofs.ApartRun.{CanStep, CanRun, storage_run, games_law, after_commands}
use Rattle.bs_sched.proofs.ApartStep.{lone_storage, renamed_frames}
use Rattle.bs_sched.proofs.Journaled.{keeps_apart}
use Rattle.bs_sched.proofs.ApartStorage.{AreBelow}

-- elements of the first list

pub all_left : {X : Type 0} (P : X → Type 0) (xs ys : List X) → All P (xs ++ ys) → All P xs
all_left P [] ys all = All-nil P
all_left P (x ∷ xs) ys all = All-cons P x xs (All-head P x (xs ++ ys) all) (all_left P xs ys (All-tail P x (xs ++ ys) all))

pub all_right : {X : Type 0} (P : X → Type 0) (xs ys : List X) → All P (xs ++ ys) → All P ys
all_right P [] ys all = all
all_right P (x ∷ xs) ys all = all_right P xs ys (All-tail P x (xs ++ ys) all)

-- numbers of a pool

pub held_below : (tag : ℕ) (numbers : List ℕ) (pool : Ledger) → Holds tag numbers pool → AreBelow (length pool.owners) numbers
held_below tag numbers pool holds =
    All-weaker (λ n. Owns tag n pool) (λ n. n < length pool.owners) (λ n owns. slice_get_within pool.owners n (Some tag) owns) numbers holds.owned.each

pub closed_below : (many : ℕ) (p : Packing) → AreBelow many (numbers_of p) → AreBelow many (closed_numbers p)
closed_below many p below =
    all_left (λ n. n < many) (closed_numbers p) (map (λ (u : Use). u.number) (option_to_list p.current))
    (subst (AreBelow many) (map-append (λ (u : Use). u.number) p.closed (option_to_list p.current)) below)

module _ (mine : Setting) (row : GameRow) (hosted : IsHosted mine (row ∷ [])) where
  abbrev world : List Event → World
  world events = shared_world mine (row ∷ []) events

  can_step : (before : List Event) (e : Event) → All HandsFit before → is_admit e ≡ false → game_of e ≡ 0 → is_enabled mine (world before).lanes e ≡ true
      → CanStep mine.cap e (world before).lanes (world before).storage
  can_step before e fits there here on =
      let law = memory_law mine (row ∷ []) before hosted fits in
      let w = world before in
      let blocks = law.blocks_shared in
      let many = grows_run mine (opened_lanes (row ∷ [])) before in
      let long = ap length law.lanes in
      let numbers = held_below _ (numbers_in w 0) w.storage.pool (law.games 0 (omega (arith, many))).keeps.own in
      record {
        store = record {
          draws = subst (λ g. CanDraw mine.cap (effect_at e (lane_of w.lanes g)) (packing_in w g) w.storage.pool) here (blocks.draws e there on);
          closed = closed_below _ (packing_of w.storage 0) numbers;
          numbers = numbers;
          frames = held_below _ (frames_in w 0) w.storage.pool (blocks.frames 0 (omega (arith, many, long)));
        };
        frame = λ worker part is. blocks.drawn worker 0 part (subst (λ d. is_enabled mine w.lanes d ≡ true) is on);
      }

  abbrev CanRunFrom : List Event → List Event → Type 0
  CanRunFrom before jobs = CanRun mine.cap mine jobs (world before).lanes (world before).storage

  can_go_on : (before jobs : List Event) (e : Event) → All HandsFit (before ++ e ∷ jobs) → is_admit e ≡ false → game_of e ≡ 0
      → are_enabled mine (world before).lanes (e ∷ jobs) ≡ true
      → (All HandsFit ((before ++ e ∷ []) ++ jobs) → are_enabled mine (world (before ++ e ∷ [])).lanes jobs ≡ true → CanRunFrom (before ++ e ∷ []) jobs)
      → CanRunFrom before (e ∷ jobs)
  can_go_on before jobs e fits there here on goes =
      let w = world before in
      let both = and_both _ _ on in
      let is : world (before ++ e ∷ []) ≡ world_after mine.cap w e
      = fold-append (world_step mine) (opened_world mine (row ∷ [])) before (e ∷ [])
      ∙ cond-true (is_enabled mine w.lanes e) (world_after mine.cap w e) w both.0 in
      let lanes : lane_effect w.lanes e ≡ step mine w.lanes e = sym (step_enabled mine w.lanes e both.0) in
      let later = goes (subst (All HandsFit) (sym (append_assoc before (e ∷ []) jobs)) fits)
      (ap (λ (v : World). are_enabled mine v.lanes jobs) is ∙ ap (λ ls. are_enabled mine ls jobs) lanes ∙ both.1) in (
        can_step before e (all_left HandsFit before (e ∷ jobs) fits) there here both.0,
        subst (λ ls. CanRun mine.cap mine jobs ls (world_after mine.cap w e).storage) lanes
            (subst (λ (v : World). CanRun mine.cap mine jobs v.lanes v.storage) is later),
      )

  pub can_run : (journal before : List Event) → All HandsFit (before ++ jobs_at 0 journal) → are_enabled mine (world before).lanes (jobs_at 0 journal) ≡ true
      → CanRunFrom before (jobs_at 0 journal)
  can_run [] before fits on = record {}
  can_run (event.Hand game command ∷ journal) before fits on = can_run journal before fits on
  can_run (event.Take worker job ∷ journal) before fits on =
      let e = event.Take worker (job_at 0 job) in
      can_go_on before (jobs_at 0 journal) e fits refl refl on (can_run journal (before ++ e ∷ []))
  can_run (event.Put worker job ∷ journal) before fits on =
      let e = event.Put worker (job_at 0 job) in
      can_go_on before (jobs_at 0 journal) e fits refl refl on (can_run journal (before ++ e ∷ []))
  can_run (event.Admit new ∷ journal) before fits on = can_run journal before fits on
  can_run (event.Leave game ∷ journal) before fits on = can_run journal before fits on

-- commands leave the storage

hand_stored : (setting : Setting) (w : World) (command : Command) → (world_step setting w (event.Hand 0 command)).storage ≡ w.storage
hand_stored setting w command =
    elim (cases_Bool (is_enabled setting w.lanes (event.Hand 0 command))) [
      | inl on ↦ rw on refl
      | inr off ↦ rw off refl
    ]

hands_stored : (setting : Setting) (w : World) (commands : List Command) → (world_run setting w (map (event.Hand 0) commands)).storage ≡ w.storage
hands_stored setting w [] = refl
hands_stored setting w (command ∷ commands) = hands_stored setting (world_step setting w (event.Hand 0 command)) commands ∙ hand_stored setting w command

-- the storage of a core of one game: that of its jobs, from an empty one on

abbrev pub first_storage : ℕ → GameRow → CoreView → Storage
first_storage cap row core = lone_storage no_packing [] (ledger_of (replicate (size core.games.storage.pool) None) (reservations_of cap (row ∷ [])))

pub record OwnStorage (cap : ℕ) (row : GameRow) (commands : List Command) (core : CoreView) : Type 0 where
  pub can : CanRun cap (setting_in cap core) (jobs_at 0 core.journal) (queued commands (empty_lane row) ∷ []) (first_storage cap row core)
  pub storage : storage_run cap (setting_in cap core) (jobs_at 0 core.journal) (queued commands (empty_lane row) ∷ []) (first_storage cap row core) ≡ core.games.storage

pub own_storage : (cap workers : ℕ) (row : GameRow) (commands : List Command) (core : CoreView) → RanAlone cap workers row commands core
    → OwnStorage cap row commands core
own_storage cap workers row commands core alone =
    let mine = setting_in cap core in
    let hands = map (event.Hand 0) commands in
    let jobs = jobs_at 0 core.journal in
    let first = hands_alone mine (empty_lane row) commands refl in
    let own = own_jobs cap workers row commands core alone in
    let hosted : IsHosted mine (row ∷ []) = subst (IsHosted mine) alone.plan alone.journaled.hosted in
    let fits : All HandsFit (hands ++ jobs) = subst (All HandsFit) alone.hands_first alone.journaled.fits in
    let w = shared_world mine (row ∷ []) hands in
    let lanes : w.lanes ≡ queued commands (empty_lane row) ∷ [] = lanes_run mine (opened_world mine (row ∷ [])) hands ∙ first.lanes_after in
    let storage : w.storage ≡ first_storage cap row core = hands_stored mine (opened_world mine (row ∷ [])) commands in
    let can = can_run mine row hosted core.journal hands fits (ap (λ ls. are_enabled mine ls jobs) lanes ∙ own.enabled) in
    let start = opened cap mine.blocks core.games.workers (row ∷ []) in
    let on : are_enabled mine start.lanes (hands ++ jobs) ≡ true
    = ap (are_enabled mine start.lanes) (sym alone.hands_first)
    ∙ ap (λ rows. are_enabled mine (opened_lanes rows) core.journal) (sym alone.plan) ∙ alone.journaled.enabled in
    let ends : games_run mine start (hands ++ jobs) ≡ record core.games { failed = false; tallies = [] }
    = ap (games_run mine start) (sym alone.hands_first)
    ∙ ap (λ rows. games_run mine (opened cap mine.blocks core.games.workers rows) core.journal) (sym alone.plan) ∙ alone.journaled.games in
    record {
      can = subst (λ ls. CanRun cap mine jobs ls (first_storage cap row core)) lanes (subst (λ s. CanRun cap mine jobs w.lanes s) storage can);
      storage = ap (λ ls. storage_run cap mine jobs ls (first_storage cap row core)) (sym first.lanes_after)
          ∙ sym (after_commands cap mine commands jobs (empty_lane row ∷ []) (first_storage cap row core))
          ∙ ap (λ (g : GamesView). g.storage) (sym (games_law mine start (hands ++ jobs) on) ∙ ends);
    }

-- no frame block is out in the end, so none gets another number

not_playing : (s : Stage) → is_idle s ≡ true → is_playing s ≡ false
not_playing stage.Idle idle = refl
not_playing (stage.Begin worker) idle = refl
not_playing stage.Parts idle = cc
not_playing (stage.Join taker) idle = cc

none_renamed : (phi : ℕ → ℕ) (frames : List (Option ℕ)) → flattened frames ≡ [] → renamed_frames phi frames ≡ frames
none_renamed phi [] none = refl
none_renamed phi (None ∷ frames) none = ap (λ fs. None ∷ fs) (none_renamed phi frames none)
none_renamed phi (Some n ∷ frames) none = cc

pub frames_stay : (cap workers : ℕ) (row : GameRow) (commands : List Command) (core : CoreView) (phi : ℕ → ℕ) → RanAlone cap workers row commands core
    → renamed_frames phi (own_frames core) ≡ own_frames core
frames_stay cap workers row commands core phi alone =
    let mine = setting_in cap core in
    let keeps = keeps_apart cap core alone.journaled in
    let w = shared_world mine core.games.rows core.journal in
    let lanes : w.lanes ≡ core.games.lanes = keeps.memory.lanes ∙ keeps.lanes in
    let storage : w.storage ≡ core.games.storage
    = ap (λ (g : GamesView). g.storage) (sym keeps.memory.core ∙ alone.journaled.games) in
    let rows = ap length alone.plan in
    let opened = length-map core.games.rows empty_lane in
    let many = grows_run mine (opened_lanes core.games.rows) core.journal in
    let long = ap length keeps.memory.lanes in
    let idle : is_playing (lane_of w.lanes 0).stage ≡ false
    = ap (λ ls. is_playing (lane_of ls 0).stage) lanes ∙ not_playing (own_lane core).stage alone.idle in
    none_renamed phi (own_frames core)
    (ap (λ (s : Storage). flattened (frames_of s 0)) (sym storage)
    ∙ keeps.memory.blocks_shared.idle 0 (omega (arith, rows, opened, many, long)) idle)
