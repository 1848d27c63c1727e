-- The admission is the act. If its event is enabled, only memory is a reason to refuse it.
use Rattle.std.proofs.Common.{sym, ap, subst, ◌∙◌}
use Rattle.bs_sched.specs.Journal.{setting_in}
use Rattle.bs_workers.specs.declared.act.Act.TheVariants as act
use Rattle.bs_workers.specs.Causes.{IsCause}
use Rattle.bs_workers.specs.inner.Faults.{refused_fault}
use Rattle.bs_workers.proofs.AcceptableActs.{admit_for_memory}
use Rattle.bs_workers.proofs.MadeActs.{makes_event}
use Rattle.bs_workers.proofs.alone.Alone.admit.Goals as goal

pub returns-in-Ok-clause-made : goal.returns-in-Ok-clause-made
returns-in-Ok-clause-made g c = makes_event g.row.CAP c.args.self.now.core c.admit.new.self (act.Admit c.args.row) c.in-Ok.ensures.2

pub returns-in-Err-clause-cause : goal.returns-in-Err-clause-cause
returns-in-Err-clause-cause g c =
    λ enabled.
    let core = c.args.self.now.core in
    let memory = admit_for_memory (setting_in g.row.CAP core) core.games.lanes c.args.row c.in-Err.refusal enabled c.in-Err.ensures.0 in
    subst (IsCause (g.G.Gate.may_refuse c.args.self.now.gate.now)) (sym (c.fault_of.ensures ∙ ap refused_fault memory)) tt
