-- A core that ran alone, from what it was asked and from its own journal.
use Rattle.std.proofs.Common.{◌≡◌, ℕ, true, false, List, [], ◌∷◌, ◌++◌, length, map, refl, sym, ap, ◌∙◌, arith}
use Rattle.std.specs.Prelude.{All}
use Rattle.std.specs.List.{list_all}
use Rattle.std.proofs.lemmas.List.{length-set}
use Rattle.std.proofs.lemmas.List.Elements.{All-head, All-tail, filter_map-append}
use Rattle.bs_board.proofs.Chains.{and_both}
use Rattle.bs_board.specs.declared.commands.command.Command.{Command}
use Rattle.bs_board.specs.plans.Plan.{GameRow}
use Rattle.bs_fiber.specs.declared.job.JobName.{JobName}
use Rattle.bs_sched.specs.declared.event.Event.{Event}
use Rattle.bs_sched.specs.declared.event.Event.TheVariants as event
use Rattle.bs_sched.specs.Assembly.{IsJob, IsQueuedFirst, job_at, job_event, jobs_at}
use Rattle.bs_sched.specs.Core.{CoreView}
use Rattle.bs_sched.specs.Isolation.{are_enabled, opened_lanes}
use Rattle.bs_sched.specs.Journal.{IsItsJournal, setting_in}
use Rattle.bs_sched.specs.Lane.{Lane, empty_lane, is_idle, is_quiet}
use Rattle.bs_sched.specs.Machine.{Setting, game_of, is_admit, is_enabled, lane_of, run_of, step}
use Rattle.bs_sched.proofs.ApartLanes.{hands_alone}
use Rattle.bs_sched.proofs.ApartRows.{enabled_after}
use Rattle.bs_sched.proofs.LoneLanes.{changed, effect_there, met, step_enabled}

-- the lanes are as many after an event that is enabled and admits no game
as_many : (setting : Setting) (lanes : List Lane) (e : Event) → is_admit e ≡ false → is_enabled setting lanes e ≡ true → length (step setting lanes e) ≡ length lanes
as_many setting lanes e there on =
    ap length (step_enabled setting lanes e on ∙ effect_there lanes e there) ∙ length-set lanes (game_of e) (changed lanes e)

only_row : (setting : Setting) (lanes : List Lane) (e : Event) → length lanes ≡ 1 → is_admit e ≡ false → is_enabled setting lanes e ≡ true → game_of e ≡ 0
only_row setting lanes e one there on = let within = (met setting lanes e there on).within in omega (arith, within, one)

at_zero : (job : JobName) → job.game ≡ 0 → job_at 0 job ≡ job
at_zero job is = ap (λ row. job_at row job) (sym is)

-- the jobs of a core with one stay are that stay's
only_jobs : (setting : Setting) (lanes : List Lane) (jobs : List Event) → length lanes ≡ 1 → All IsJob jobs → are_enabled setting lanes jobs ≡ true → jobs_at 0 jobs ≡ jobs
only_jobs setting lanes [] one are on = refl
only_jobs setting lanes (event.Take worker job ∷ jobs) one are on =
    let e = event.Take worker job in
    let both = and_both _ _ on in
    ap (λ j. event.Take worker j ∷ jobs_at 0 jobs) (at_zero job (only_row setting lanes e one refl both.0))
    ∙ ap (λ es. e ∷ es)
    (only_jobs setting (step setting lanes e) jobs (as_many setting lanes e refl both.0 ∙ one) (All-tail IsJob e jobs are) both.1)
only_jobs setting lanes (event.Put worker job ∷ jobs) one are on =
    let e = event.Put worker job in
    let both = and_both _ _ on in
    ap (λ j. event.Put worker j ∷ jobs_at 0 jobs) (at_zero job (only_row setting lanes e one refl both.0))
    ∙ ap (λ es. e ∷ es)
    (only_jobs setting (step setting lanes e) jobs (as_many setting lanes e refl both.0 ∙ one) (All-tail IsJob e jobs are) both.1)
only_jobs setting lanes (event.Hand game command ∷ jobs) one are on = absurd (All-head IsJob (event.Hand game command) jobs are)
only_jobs setting lanes (event.Admit row ∷ jobs) one are on = absurd (All-head IsJob (event.Admit row) jobs are)
only_jobs setting lanes (event.Leave game ∷ jobs) one are on = absurd (All-head IsJob (event.Leave game) jobs are)

no_jobs : (commands : List Command) → jobs_at 0 (map (event.Hand 0) commands) ≡ []
no_jobs [] = refl
no_jobs (command ∷ commands) = no_jobs commands

pub queued_first : (cap : ℕ) (core : CoreView) (row : GameRow) (commands : List Command) → IsItsJournal cap core → core.games.rows ≡ row ∷ [] → IsQueuedFirst commands core
    → core.journal ≡ map (event.Hand 0) commands ++ jobs_at 0 core.journal
queued_first cap core row commands own plan first =
    let mine = setting_in cap core in
    let hands = map (event.Hand 0) commands in
    let jobs = first.jobs in
    let opened = empty_lane row ∷ [] in
    let alone = hands_alone mine (empty_lane row) commands refl in
    let on : are_enabled mine opened (hands ++ jobs) ≡ true
    = ap (are_enabled mine opened) (sym first.journal_is)
    ∙ ap (λ rows. are_enabled mine (opened_lanes rows) core.journal) (sym plan) ∙ own.enabled in
    let later = (and_both _ _ (sym (enabled_after mine opened hands jobs) ∙ on)).1 in
    let theirs : jobs_at 0 jobs ≡ jobs
    = only_jobs mine (run_of mine opened hands) jobs (ap length alone.lanes_after) first.are_jobs later in
    let all : jobs_at 0 core.journal ≡ jobs
    = ap (jobs_at 0) first.journal_is ∙ filter_map-append (job_event 0) hands jobs ∙ ap (λ es. es ++ jobs_at 0 jobs) (no_jobs commands) ∙ theirs in
    first.journal_is ∙ ap (λ es. hands ++ es) (sym all)

pub first_idle : (lanes : List Lane) → list_all is_quiet lanes ≡ true → is_idle (lane_of lanes 0).stage ≡ true
first_idle [] quiet = refl
first_idle (x ∷ lanes) quiet = (and_both _ _ (and_both _ _ quiet).0).0
