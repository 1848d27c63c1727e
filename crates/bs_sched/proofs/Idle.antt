-- Stays without a job in progress.
use Rattle.std.proofs.Common.{◌≡◌, ℕ, ◌≤◌, true, List, [], ◌∷◌, None, refl, sym, subst, arith}
use Rattle.std.specs.Prelude.{All}
use Rattle.std.proofs.lemmas.List.{length-replicate}
use Rattle.std.proofs.lemmas.List.Elements.{All-nil, All-cons, All-head, All-tail}
use Rattle.std.proofs.lemmas.List.Sums.{sum_by-cons}
use Rattle.bs_board.specs.plans.Plan.{GameRow, IsFitPlan}
use Rattle.bs_sched.specs.declared.cores.TheConstants.{LEAST_CAPACITY}
use Rattle.bs_sched.specs.declared.event.Event.{Event}
use Rattle.bs_sched.specs.Core.{opened_core}
use Rattle.bs_sched.specs.Games.{GamesView, opened}
use Rattle.bs_sched.specs.Journal.{IsItsJournal}
use Rattle.bs_registry.specs.Blocks.{blocks_of_all}
use Rattle.bs_sched.specs.SharedMemory.{IsHosted}
use Rattle.bs_sched.specs.inner.Journal.{core_of, jobs_out, out_of_lane}
use Rattle.bs_sched.specs.Isolation.{opened_lanes}
use Rattle.bs_sched.specs.Lane.{Lane, empty_lane, is_idle}
use Rattle.bs_sched.proofs.JobsOut.{out_idle}
use Rattle.bs_sched.proofs.Journaled.{opened_journal}

abbrev pub IsIdle : Lane → Type 0
IsIdle x = is_idle x.stage ≡ true

pub empty_idle : (rows : List GameRow) → All IsIdle (opened_lanes rows)
empty_idle [] = All-nil IsIdle
empty_idle (row ∷ rows) = All-cons IsIdle (empty_lane row) (opened_lanes rows) refl (empty_idle rows)

pub no_job_out : (lanes : List Lane) → All IsIdle lanes → jobs_out lanes ≡ 0
no_job_out [] idle = refl
no_job_out (x ∷ lanes) idle =
    let sum = sum_by-cons out_of_lane x lanes in
    let here = out_idle x.stage x.parts (All-head IsIdle x lanes idle) in
    let rest = no_job_out lanes (All-tail IsIdle x lanes idle) in
    omega (arith, sum, here, rest)

-- a newly opened core
pub record IsNew (cap : ℕ) (games : GamesView) (journal : List Event) : Type 0 where
  pub its_journal : IsItsJournal cap (core_of games journal)
  pub idle : All IsIdle games.lanes

pub newly_opened : (cap blocks workers : ℕ) (rows : List GameRow) (games : GamesView) (journal : List Event) → LEAST_CAPACITY ≤ cap → IsFitPlan rows
    → blocks_of_all cap rows ≤ blocks → games ≡ opened cap blocks workers rows → journal ≡ [] → IsNew cap games journal
newly_opened cap blocks workers rows games journal wide plan room is none =
    let hosted : IsHosted (record { cap = cap; blocks = blocks; workers = workers }) rows = record { wide = wide; plan = plan; room = room } in
    let core : core_of games journal ≡ opened_core cap blocks workers rows = (λ i. core_of (is i) (none i)) in
    record {
      its_journal = subst (IsItsJournal cap) (sym core) (opened_journal cap blocks workers rows hosted (length-replicate blocks None));
      idle = subst (λ (v : GamesView). All IsIdle v.lanes) (sym is) (empty_idle rows);
    }
