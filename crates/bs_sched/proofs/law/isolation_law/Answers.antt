-- The lemma for all events is the law itself.
use Rattle.bs_sched.proofs.Registry.{registry_law, journal_law, served_law}
use Rattle.bs_sched.proofs.Isolation.{isolation_law}
use Rattle.bs_sched.proofs.MemoryLaw.{memory_law}
use Rattle.bs_sched.proofs.Names.{names_law}
use Rattle.bs_sched.proofs.Progress.{progress_example}
use Rattle.bs_sched.proofs.law.isolation_law.Goals as goal

pub returns-clause-isolation : goal.returns-clause-isolation
returns-clause-isolation c = isolation_law

pub returns-clause-memory : goal.returns-clause-memory
returns-clause-memory c = memory_law

pub returns-clause-registry : goal.returns-clause-registry
returns-clause-registry c = registry_law

pub returns-clause-served : goal.returns-clause-served
returns-clause-served c = served_law

pub returns-clause-progress : goal.returns-clause-progress
returns-clause-progress c = progress_example

pub returns-clause-journal : goal.returns-clause-journal
returns-clause-journal c = journal_law

pub returns-clause-names : goal.returns-clause-names
returns-clause-names c = names_law
