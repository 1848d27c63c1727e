use Rattle.std.proofs.Common.{sym, subst}
use Rattle.bs_sched.specs.Core.{CoreView}
use Rattle.bs_sched.specs.inner.Journal.{core_in}
use Rattle.bs_sched.specs.inner.Taking.{AreNoneOpenReady, AreNoneReady}
use Rattle.bs_sched.proofs.Journaled.{none_ready}
use Rattle.bs_sched.proofs.cores.Core.has_none.Goals as goal

pub returns : goal.returns
returns g c =
    subst (λ (v : CoreView). AreNoneReady v.games.lanes) c.self.view_is
    (none_ready g.row.CAP (core_in c.self.inside) c.self.invariant.journal
    (subst (λ (v : CoreView). AreNoneOpenReady v.games.lanes) (sym c.self.view_is) c.requires))
