-- The fault of a run whose core refuses an admission.
use Rattle.bs_sched.specs.declared.stays.Admit.{Admit}
use Rattle.bs_sched.specs.declared.stays.Admit.TheVariants as admit
use Rattle.bs_workers.specs.declared.fault.Run.{Run}
use Rattle.bs_workers.specs.declared.fault.Run.TheVariants as cause

-- memory, or the act was not acceptable
abbrev pub refused_fault : Admit → Run
refused_fault admit.NameOpen = cause.Broken
refused_fault admit.Full = cause.Broken
refused_fault (admit.Short free) = cause.Broken
refused_fault admit.Memory = cause.Memory
