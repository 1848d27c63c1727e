use Rattle.bs_batch.proofs.FirstLasts.{first_lasts}
use Rattle.bs_batch.proofs.law.first_law.Goals as goal

pub returns : goal.returns
returns c = first_lasts
