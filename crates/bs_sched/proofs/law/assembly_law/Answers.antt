-- The lemmas are the law.
use Rattle.bs_sched.proofs.ApartExample.{apart_example}
use Rattle.bs_sched.proofs.Assembly.{assembly_law}
use Rattle.bs_sched.proofs.OpenedApart.{sharing_law}
use Rattle.bs_sched.proofs.law.assembly_law.Goals as goal

pub returns-clause-assembly : goal.returns-clause-assembly
returns-clause-assembly c = assembly_law

pub returns-clause-sharing : goal.returns-clause-sharing
returns-clause-sharing c = sharing_law

pub returns-clause-progress : goal.returns-clause-progress
returns-clause-progress c = apart_example
