-- What private contracts add to specs/LiveFaults.
use Rattle.std.specs.Prelude.{◌≡◌, ◌⊎◌, ℕ, ◌+◌, ◌<◌, List, length, take, Option, Some}
use Rattle.std.specs.Io.KnownBytes.{Appends, Keeps}
use Rattle.bs_board.specs.declared.plans.version.Version.{Version}
use Rattle.bs_board.specs.plans.Plan.{GameRow}
use Rattle.bs_host.specs.declared.fault.Fault.{Fault}
use Rattle.bs_host.specs.declared.fault.Fault.TheVariants.{Device, Plan as OfPlan, Memory, Write, Flush}
use Rattle.bs_host.specs.Live.{live_lines_of}
use Rattle.bs_host.specs.LiveFaults.{HasFirstAnswers}

-- the fault of opening: that refusal; nothing is claimed of `Memory`
abbrev pub IsLiveRefusal : Option Fault → Fault → Type 0
IsLiveRefusal refusal (OfPlan reason) = refusal ≡ Some (OfPlan reason)
IsLiveRefusal refusal Memory = Unit {0}
IsLiveRefusal refusal _ = ⊥

-- the fault of a read
abbrev pub IsReadFault : Fault → Type 0
IsReadFault Device = Unit {0}
IsReadFault Memory = Unit {0}
IsReadFault _ = ⊥

-- After a fault that comes after the plan's line, whole answers are written. If the writer failed,
-- it has a proper prefix of the answers, of the length that the fault gives. If the last flush
-- failed, it has all answers.
abbrev pub LeavesLines : ℕ → Version → List GameRow → List (List ℕ) → Option (List ℕ) → Option (List ℕ) → Fault → Type 0
LeavesLines blocks version plan lines old new Device = HasFirstAnswers blocks version plan lines old new
LeavesLines blocks version plan lines old new Memory = HasFirstAnswers blocks version plan lines old new
LeavesLines blocks version plan lines old new (Write written) =
    (written < length (live_lines_of blocks version plan lines)) × Appends old new (take written (live_lines_of blocks version plan lines))
LeavesLines blocks version plan lines old new Flush =
    HasFirstAnswers blocks version plan lines old new ⊎ Appends old new (live_lines_of blocks version plan lines)
LeavesLines blocks version plan lines old new _ = ⊥

-- After a failed write of that text, when `before` bytes were written earlier.
abbrev pub LeavesText : List ℕ → ℕ → Option (List ℕ) → Option (List ℕ) → Fault → Type 0
LeavesText text before old new Memory = Keeps old new
LeavesText text before old new (Write written) =
    (taken : ℕ) × (written ≡ before + taken) × (taken < length text) × Appends old new (take taken text)
LeavesText text before old new Flush = Appends old new text
LeavesText text before old new _ = ⊥
