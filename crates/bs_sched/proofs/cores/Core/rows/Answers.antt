use Rattle.std.proofs.Common.{◌≡◌, ◌++◌, map, subst}
use Rattle.bs_sched.specs.Registry.{rows_in}
use Rattle.bs_sched.specs.Core.{CoreView}
use Rattle.bs_sched.specs.inner.Journal.{core_in}
use Rattle.bs_sched.specs.Lane.{Lane}
use Rattle.bs_sched.proofs.Journaled.{rows_made}
use Rattle.bs_sched.proofs.cores.Core.rows.Goals as goal

pub returns-clause-made : goal.returns-clause-made
returns-clause-made g c =
    subst (λ (v : CoreView). map (λ (x : Lane). x.row) v.games.lanes ≡ v.games.rows ++ rows_in v.journal) c.self.view_is
    (rows_made g.row.CAP (core_in c.self.inside) c.self.invariant.journal)
