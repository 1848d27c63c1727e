-- The journal says that the acts so far were enabled, and which stays they left.
use Rattle.bs_workers.proofs.AcceptableActs.{next_may}
use Rattle.bs_workers.proofs.alone.Alone.keeps_acceptable.Goals as goal

pub returns : goal.returns
returns g c = next_may g.row.CAP c.args.self.now.core c.args.next.now c.journal-journal.ensures.journal c.journal-journal.ensures.apart
