-- Why the threads of a run stopped: which reason is kept, and which has a cause.
use Rattle.std.specs.Prelude.{Option, Some, None}
use Rattle.bs_workers.specs.declared.stop.Stop.{Stop}
use Rattle.bs_workers.specs.declared.stop.Stop.TheVariants as stop

-- `Memory` if it occurred at all, else `Refused`, else `Failed`
abbrev pub kept_stop : Option Stop → Stop → Stop
kept_stop None later = later
kept_stop (Some stop.Memory) later = stop.Memory
kept_stop (Some stop.Refused) stop.Memory = stop.Memory
kept_stop (Some stop.Refused) stop.Refused = stop.Refused
kept_stop (Some stop.Refused) stop.Failed = stop.Refused
kept_stop (Some stop.Failed) later = later

-- `Refused` only if that holds; nothing is said of the others
abbrev pub IsStopCause : Type 0 → Stop → Type 0
IsStopCause refuses stop.Memory = Unit {0}
IsStopCause refuses stop.Refused = refuses
IsStopCause refuses stop.Failed = Unit {0}
