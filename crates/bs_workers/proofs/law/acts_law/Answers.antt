use Rattle.bs_workers.proofs.AcceptableActs.{acts_law}
use Rattle.bs_workers.proofs.law.acts_law.Goals as goal

pub returns : goal.returns
returns c = acts_law
