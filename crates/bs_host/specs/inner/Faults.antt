-- What private contracts add to specs/Faults.
use Rattle.std.specs.Prelude.{◌≡◌, Option, Some}
use Rattle.bs_host.specs.declared.fault.Fault.{Fault}
use Rattle.bs_host.specs.declared.fault.Fault.TheVariants.{TooLong, Plan as OfPlan, Memory}

-- the fault is that refusal; nothing is claimed of `Memory`
abbrev pub IsRefusal : Option Fault → Fault → Type 0
IsRefusal refusal TooLong = refusal ≡ Some TooLong
IsRefusal refusal (OfPlan reason) = refusal ≡ Some (OfPlan reason)
IsRefusal refusal Memory = Unit {0}
IsRefusal refusal _ = ⊥
