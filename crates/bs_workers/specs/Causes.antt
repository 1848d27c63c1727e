-- Why a run is stopped.
use Rattle.bs_workers.specs.declared.fault.Run.{Run}
use Rattle.bs_workers.specs.declared.fault.Run.TheVariants as cause

-- `Broken` only if that holds; nothing is said of `Memory`
abbrev pub IsCause : Type 0 → Run → Type 0
IsCause refuses cause.Memory = Unit {0}
IsCause refuses cause.Broken = refuses
