use Rattle.std.proofs.Common.{subst}
use Rattle.bs_sched.specs.Journal.{KeepsApart}
use Rattle.bs_sched.specs.inner.Journal.{core_in}
use Rattle.bs_sched.proofs.Journaled.{keeps_apart}
use Rattle.bs_sched.proofs.cores.Core.journal.Goals as goal

pub returns-clause-apart : goal.returns-clause-apart
returns-clause-apart g c = subst (KeepsApart g.row.CAP) c.self.view_is (keeps_apart g.row.CAP (core_in c.self.inside) c.self.invariant.journal)
