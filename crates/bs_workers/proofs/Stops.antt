-- The causes of the reasons why threads stopped.
use Rattle.std.proofs.Common.{◌≡◌, Option, Some, None}
use Rattle.std.specs.Prelude.{IfSome}
use Rattle.bs_workers.specs.declared.stop.Stop.{Stop}
use Rattle.bs_workers.specs.declared.stop.Stop.TheVariants as stop
use Rattle.bs_workers.specs.inner.Stops.{IsStopCause, kept_stop}

-- of two reasons, each with its cause
pub kept_cause : (refuses : Type 0) (earlier : Option Stop) (later : Stop) → IfSome earlier (IsStopCause refuses) → IsStopCause refuses later
    → IsStopCause refuses (kept_stop earlier later)
kept_cause refuses None later first second = second
kept_cause refuses (Some stop.Memory) later first second = tt
kept_cause refuses (Some stop.Refused) stop.Memory first second = tt
kept_cause refuses (Some stop.Refused) stop.Refused first second = first
kept_cause refuses (Some stop.Refused) stop.Failed first second = first
kept_cause refuses (Some stop.Failed) later first second = second
