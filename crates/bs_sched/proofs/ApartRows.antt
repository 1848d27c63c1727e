-- The lanes of all games that ran apart, one core after the other.
use Rattle.std.proofs.Common.{◌≡◌, ℕ, suc, ◌+◌, ◌<◌, Bool, true, false, ◌&&◌, ◌||◌, List, [], ◌∷◌, ◌++◌, length, map, refl, sym, ap, subst, ◌∙◌, arith}
use Rattle.std.specs.Prelude.{All}
use Rattle.std.proofs.lemmas.Bool.{and_from}
use Rattle.std.proofs.lemmas.List.{append_assoc, length_push, length-map}
use Rattle.std.proofs.lemmas.List.Folds.{list_any-append}
use Rattle.std.proofs.lemmas.List.Sums.{fold-append}
use Rattle.bs_board.proofs.Chains.{and_both}
use Rattle.bs_board.specs.declared.commands.command.Command.{Command}
use Rattle.bs_board.specs.plans.Plan.{GameRow}
use Rattle.bs_sched.specs.declared.stage.Stage.{Stage}
use Rattle.bs_sched.specs.declared.stage.Stage.TheVariants as stage
use Rattle.bs_sched.specs.declared.event.Event.{Event}
use Rattle.bs_sched.specs.declared.event.Event.TheVariants as event
use Rattle.bs_sched.specs.Assembly.{Hand, hand_event, commands_for, jobs_at, jobs_from, assembled_journal, own_lane, RanAlone, RanApart, core_at}
use Rattle.bs_sched.specs.Core.{CoreView}
use Rattle.bs_sched.specs.Games.{row_at}
use Rattle.bs_sched.specs.Isolation.{are_enabled, opened_lanes}
use Rattle.bs_sched.specs.Journal.{setting_in}
use Rattle.bs_sched.specs.Lane.{Lane, empty_lane, occupies, is_idle, has_begin, has_join}
use Rattle.bs_sched.specs.Machine.{Setting, lane_of, is_enabled, step, run_of}
use Rattle.bs_sched.proofs.ApartLanes.{AreFree, GoesBeside, jobs_beside, queued, handed, hands_alone, AreHanded, hands_run, are_open}
use Rattle.bs_sched.proofs.Journaled.{keeps_apart}

-- events after events

and_in_turn : (a b c : Bool) → (a && (b && c)) ≡ ((a && b) && c)
and_in_turn true b c = refl
and_in_turn false b c = refl

pub enabled_after : (setting : Setting) (lanes : List Lane) (events later : List Event)
    → are_enabled setting lanes (events ++ later) ≡ (are_enabled setting lanes events && are_enabled setting (run_of setting lanes events) later)
enabled_after setting lanes [] later = refl
enabled_after setting lanes (e ∷ events) later =
    ap (λ b. is_enabled setting lanes e && b) (enabled_after setting (step setting lanes e) events later)
    ∙ and_in_turn (is_enabled setting lanes e) (are_enabled setting (step setting lanes e) events) (are_enabled setting (run_of setting (step setting lanes e) events) later)

pub run_after : (setting : Setting) (lanes : List Lane) (events later : List Event)
    → run_of setting lanes (events ++ later) ≡ run_of setting (run_of setting lanes events) later
run_after setting lanes events later = fold-append (step setting) lanes events later

-- a core of one game: its jobs, once its commands are queued

pub record OwnJobs (cap : ℕ) (row : GameRow) (commands : List Command) (core : CoreView) : Type 0 where
  pub enabled : are_enabled (setting_in cap core) (queued commands (empty_lane row) ∷ []) (jobs_at 0 core.journal) ≡ true
  pub lane : lane_of (run_of (setting_in cap core) (queued commands (empty_lane row) ∷ []) (jobs_at 0 core.journal)) 0 ≡ own_lane core

pub own_jobs : (cap workers : ℕ) (row : GameRow) (commands : List Command) (core : CoreView) → RanAlone cap workers row commands core → OwnJobs cap row commands core
own_jobs cap workers row commands core alone =
    let mine = setting_in cap core in
    let hands = map (event.Hand 0) commands in
    let jobs = jobs_at 0 core.journal in
    let first = hands_alone mine (empty_lane row) commands refl in
    let on : are_enabled mine (empty_lane row ∷ []) (hands ++ jobs) ≡ true
    = ap (are_enabled mine (empty_lane row ∷ [])) (sym alone.hands_first)
    ∙ ap (λ rows. are_enabled mine (opened_lanes rows) core.journal) (sym alone.plan) ∙ alone.journaled.enabled in
    let both = and_both _ _ (sym (enabled_after mine (empty_lane row ∷ []) hands jobs) ∙ on) in
    let ends : run_of mine (empty_lane row ∷ []) (hands ++ jobs) ≡ core.games.lanes
    = ap (run_of mine (empty_lane row ∷ [])) (sym alone.hands_first)
    ∙ ap (λ rows. run_of mine (opened_lanes rows) core.journal) (sym alone.plan) ∙ (keeps_apart cap core alone.journaled).lanes in
    record {
      enabled = ap (λ ls. are_enabled mine ls jobs) (sym first.lanes_after) ∙ both.1;
      lane = ap (λ ls. lane_of (run_of mine ls jobs) 0) (sym first.lanes_after)
          ∙ ap (λ ls. lane_of ls 0) (sym (run_after mine (empty_lane row ∷ []) hands jobs) ∙ ends);
    }

-- no worker is busy

pub idle_begins : (worker : ℕ) (s : Stage) → is_idle s ≡ true → (has_begin worker s || has_join worker s) ≡ false
idle_begins worker stage.Idle idle = refl
idle_begins worker (stage.Begin w) idle = cc
idle_begins worker stage.Parts idle = cc
idle_begins worker (stage.Join taker) idle = cc

pub handed_free : (hands : List Hand) (game : ℕ) (rows : List GameRow) → AreFree (handed hands game (opened_lanes rows))
handed_free hands game [] worker = refl
handed_free hands game (row ∷ rows) worker = handed_free hands (suc game) rows worker

pub free_push : (done : List Lane) (x : Lane) → AreFree done → is_idle x.stage ≡ true → AreFree (done ++ x ∷ [])
free_push done x free idle worker =
    list_any-append (occupies worker) done (x ∷ [])
    ∙ ap (λ (b : Bool). b || (occupies worker x || false)) (free worker)
    ∙ ap (λ (b : Bool). b || false) (idle_begins worker x.stage idle)

-- each row, from this one on

abbrev pub AreAlone : ℕ → ℕ → List Hand → ℕ → List GameRow → List CoreView → Type 0
AreAlone cap workers hands game [] [] = Unit {0}
AreAlone cap workers hands game [] (core ∷ cores) = ⊥
AreAlone cap workers hands game (row ∷ rows) [] = ⊥
AreAlone cap workers hands game (row ∷ rows) (core ∷ cores) =
    RanAlone cap workers row (commands_for game hands) core × AreAlone cap workers hands (suc game) rows cores

pub alone_from : (cap workers : ℕ) (hands : List Hand) (game : ℕ) (rows : List GameRow) (cores : List CoreView) → length cores ≡ length rows
    → ((k : ℕ) → k < length rows → RanAlone cap workers (row_at rows k) (commands_for (game + k) hands) (core_at cores k)) → AreAlone cap workers hands game rows cores
alone_from cap workers hands game [] [] many each = record {}
alone_from cap workers hands game [] (core ∷ cores) many each = omega (arith, many)
alone_from cap workers hands game (row ∷ rows) [] many each = omega (arith, many)
alone_from cap workers hands game (row ∷ rows) (core ∷ cores) many each =
    let here : game + 0 ≡ game = omega arith in (
      subst (λ g. RanAlone cap workers row (commands_for g hands) core) here (each 0 (omega arith)),
      alone_from cap workers hands (suc game) rows cores (omega (arith, many))
          (λ k less.
          let next : game + suc k ≡ suc game + k = omega arith in
          subst (λ g. RanAlone cap workers (row_at rows k) (commands_for g hands) (core_at cores k)) next (each (suc k) (omega (arith, less)))),
    )

module _ (cap workers : ℕ) (all : Setting) (same : all.workers ≡ workers) (hands : List Hand) where
  -- the jobs of one row: they are enabled, and the next row goes on from there
  pub record RowBeside (done : List Lane) (game : ℕ) (row : GameRow) (rows : List GameRow) (core : CoreView) : Type 0 where
    pub enabled : are_enabled all (done ++ handed hands game (opened_lanes (row ∷ rows))) (jobs_at game core.journal) ≡ true
    pub next : run_of all (done ++ handed hands game (opened_lanes (row ∷ rows))) (jobs_at game core.journal)
        ≡ (done ++ own_lane core ∷ []) ++ handed hands (suc game) (opened_lanes rows)

  pub row_beside : (done : List Lane) (game : ℕ) (row : GameRow) (rows : List GameRow) (core : CoreView) → length done ≡ game → AreFree done
      → RanAlone cap workers row (commands_for game hands) core → RowBeside done game row rows core
  row_beside done game row rows core long free alone =
      let mine = setting_in cap core in
      let x = queued (commands_for game hands) (empty_lane row) in
      let y = own_lane core in
      let rest = handed hands (suc game) (opened_lanes rows) in
      let workers_same : mine.workers ≡ all.workers = alone.workers_same ∙ sym same in
      let none = handed_free hands (suc game) rows in
      let beside : GoesBeside mine all workers_same done rest free none x (jobs_at 0 core.journal) (jobs_at game core.journal)
      = subst (λ n. GoesBeside mine all workers_same done rest free none x (jobs_at 0 core.journal) (jobs_at n core.journal)) long
      (jobs_beside mine all workers_same done rest free none core.journal x) in
      let own = own_jobs cap workers row (commands_for game hands) core alone in
      record {
        enabled = beside.enabled ∙ own.enabled;
        next = beside.lanes ∙ ap (λ z. done ++ z ∷ rest) own.lane ∙ sym (append_assoc done (y ∷ []) rest);
      }

  pub record RowsBeside (done : List Lane) (game : ℕ) (rows : List GameRow) (cores : List CoreView) : Type 0 where
    pub enabled : are_enabled all (done ++ handed hands game (opened_lanes rows)) (jobs_from game cores) ≡ true
    pub lanes : run_of all (done ++ handed hands game (opened_lanes rows)) (jobs_from game cores) ≡ done ++ map own_lane cores

  pub rows_beside : (done : List Lane) (game : ℕ) (rows : List GameRow) (cores : List CoreView) → length done ≡ game → AreFree done
      → AreAlone cap workers hands game rows cores → RowsBeside done game rows cores
  rows_beside done game [] [] long free alone = record { enabled = refl; lanes = refl }
  rows_beside done game [] (core ∷ cores) long free alone = absurd alone
  rows_beside done game (row ∷ rows) [] long free alone = absurd alone
  rows_beside done game (row ∷ rows) (core ∷ cores) long free alone =
      let y = own_lane core in
      let lanes = done ++ handed hands game (opened_lanes (row ∷ rows)) in
      let jobs = jobs_at game core.journal in
      let later = jobs_from (suc game) cores in
      let one = row_beside done game row rows core long free alone.0 in
      let goes = rows_beside (done ++ y ∷ []) (suc game) rows cores (let e = length_push done y in omega (arith, e, long))
      (free_push done y free alone.0.idle) alone.1 in
      record {
        enabled = enabled_after all lanes jobs later ∙ and_from _ _ one.enabled (ap (λ ls. are_enabled all ls later) one.next ∙ goes.enabled);
        lanes = run_after all lanes jobs later ∙ ap (λ ls. run_of all ls later) one.next ∙ goes.lanes ∙ append_assoc done (y ∷ []) (map own_lane cores);
      }

-- all rows of the plan

opened_open : (plan : List GameRow) → are_open (opened_lanes plan) ≡ true
opened_open [] = refl
opened_open (row ∷ plan) = opened_open plan

all_handed : (all : Setting) (plan : List GameRow) (hands : List Hand) → All (λ hand. hand.row < length plan) hands → AreHanded all (opened_lanes plan) hands
all_handed all plan hands within =
    let size : length (opened_lanes plan) ≡ length plan = length-map plan empty_lane in
    hands_run all (opened_lanes plan) hands (opened_open plan) (subst (λ n. All (λ h. h.row < n) hands) (sym size) within)

pub rows_handed : (all : Setting) (plan : List GameRow) (hands : List Hand) → All (λ hand. hand.row < length plan) hands
    → run_of all (opened_lanes plan) (map hand_event hands) ≡ handed hands 0 (opened_lanes plan)
rows_handed all plan hands within = (all_handed all plan hands within).lanes_after

pub rows_alone : (cap workers : ℕ) (plan : List GameRow) (hands : List Hand) (cores : List CoreView) → RanApart cap workers plan hands cores
    → AreAlone cap workers hands 0 plan cores
rows_alone cap workers plan hands cores apart =
    alone_from cap workers hands 0 plan cores apart.many
    (λ k less. let at : k ≡ 0 + k = omega arith in
    subst (λ g. RanAlone cap workers (row_at plan k) (commands_for g hands) (core_at cores k)) at (apart.each k less))

pub record ComesTo (all : Setting) (plan : List GameRow) (hands : List Hand) (cores : List CoreView) : Type 0 where
  pub enabled : are_enabled all (opened_lanes plan) (assembled_journal hands cores) ≡ true
  pub lanes : run_of all (opened_lanes plan) (assembled_journal hands cores) ≡ map own_lane cores

pub lanes_law : (cap workers : ℕ) (all : Setting) (plan : List GameRow) (hands : List Hand) (cores : List CoreView) → all.workers ≡ workers
    → All (λ hand. hand.row < length plan) hands → RanApart cap workers plan hands cores → ComesTo all plan hands cores
lanes_law cap workers all plan hands cores same within apart =
    let first = all_handed all plan hands within in
    let goes = rows_beside cap workers all same hands [] 0 plan cores refl (λ worker. refl) (rows_alone cap workers plan hands cores apart) in
    record {
      enabled = enabled_after all (opened_lanes plan) (map hand_event hands) (jobs_from 0 cores)
          ∙ and_from _ _ first.enabled (ap (λ ls. are_enabled all ls (jobs_from 0 cores)) first.lanes_after ∙ goes.enabled);
      lanes = run_after all (opened_lanes plan) (map hand_event hands) (jobs_from 0 cores)
          ∙ ap (λ ls. run_of all ls (jobs_from 0 cores)) first.lanes_after ∙ goes.lanes;
    }
