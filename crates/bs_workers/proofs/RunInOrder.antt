-- A run in order, from the core as it was opened to the idle one.
use Rattle.std.proofs.Common.{◌≡◌, ℕ, true, List, ◌++◌, sym, ap, subst}
use Rattle.bs_board.specs.plans.Plan.{GameRow}
use Rattle.bs_sched.specs.declared.event.Event.{Event}
use Rattle.bs_sched.specs.declared.event.Event.TheVariants as event
use Rattle.bs_sched.specs.Answering.{HasNoneWaiting}
use Rattle.bs_sched.specs.Core.{CoreView, opened_core}
use Rattle.bs_sched.specs.Journal.{KeepsApart, setting_in}
use Rattle.bs_sched.specs.Machine.{is_enabled}
use Rattle.bs_workers.specs.declared.act.Act.{Act}
use Rattle.bs_workers.specs.declared.act.Act.TheVariants as act
use Rattle.bs_workers.specs.Acceptable.{MayBeMade}
use Rattle.bs_workers.specs.Acts.{are_acceptable, capacity_of_core, opened}
use Rattle.bs_workers.specs.Run.{IsRunOf, acts_of}
use Rattle.bs_workers.specs.inner.Making.{AreIdle, AreNext, IsCalm, Makes}
use Rattle.bs_workers.proofs.Calm.{all_quiet, each_quiet, opened_idle}
use Rattle.bs_workers.proofs.Ended.{run_made}
use Rattle.bs_workers.proofs.MadeActs.{made_since_opened}

pub calm_opened : (cap blocks workers : ℕ) (rows : List GameRow) (core : CoreView) → core ≡ opened_core cap blocks workers rows → IsCalm core
calm_opened cap blocks workers rows core fresh =
    record {
      works = ap (λ (c : CoreView). c.games.failed) fresh;
      idle = subst AreIdle (sym (ap (λ (c : CoreView). c.games.lanes) fresh)) (opened_idle rows);
    }

pub next_opened : (cap blocks workers : ℕ) (rows : List GameRow) (acts : List Act) (core : CoreView) → core ≡ opened_core cap blocks workers rows
    → are_acceptable (capacity_of_core cap core) (opened core.games.rows) acts ≡ true → AreNext cap core acts
next_opened cap blocks workers rows acts core fresh acceptable =
    subst (λ (events : List Event). are_acceptable (capacity_of_core cap core) (opened core.games.rows) (acts_of events ++ acts) ≡ true)
    (sym (ap (λ (c : CoreView). c.journal) fresh)) acceptable

pub run_done : (cap blocks workers : ℕ) (rows : List GameRow) (acts : List Act) (old new : CoreView) (worker : ℕ) → old ≡ opened_core cap blocks workers rows
    → Makes acts old new → HasNoneWaiting new worker → KeepsApart cap new → IsRunOf old acts new
run_done cap blocks workers rows acts old new worker fresh made none apart =
    let calm = made.calm (calm_opened cap blocks workers rows old fresh) in
    run_made cap acts old new apart (made_since_opened cap blocks workers rows acts old new fresh made) made.rows made.blocks calm.works
    (all_quiet new worker calm none)

-- where no command waits, a stay may leave if the acts are acceptable
pub leave_enabled : (cap : ℕ) (core : CoreView) (worker stay : ℕ) → IsCalm core → HasNoneWaiting core worker
    → MayBeMade (setting_in cap core) core.games.lanes (act.Leave stay) → is_enabled (setting_in cap core) core.games.lanes (event.Leave stay) ≡ true
leave_enabled cap core worker stay calm none may = may (each_quiet core.games.lanes stay (all_quiet core worker calm none))
