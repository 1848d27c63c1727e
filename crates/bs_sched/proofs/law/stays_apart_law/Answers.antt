-- The lemmas are the law.
use Rattle.bs_sched.proofs.PlayedStays.{played_example}
use Rattle.bs_sched.proofs.StaysApart.{stays_apart_law}
use Rattle.bs_sched.proofs.law.stays_apart_law.Goals as goal

pub returns-clause-stays : goal.returns-clause-stays
returns-clause-stays c = stays_apart_law

pub returns-clause-played : goal.returns-clause-played
returns-clause-played c = played_example
