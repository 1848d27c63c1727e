-- When a command file is refused, and what each fault leaves.
use Rattle.std.specs.Prelude.{◌≡◌, ℕ, ◌<◌, List, length, take, nat_lt, Option, Some, None, Result, Ok, Err, if◌then◌else◌}
use Rattle.std.specs.Io.KnownBytes.{Appends}
use Rattle.bs_board.specs.declared.plans.plan.Plan.{Plan}
use Rattle.bs_json.specs.declared.plan.PlanFault.{PlanFault}
use Rattle.bs_json.specs.declared.plan.PlanFault.TheVariants as plan
use Rattle.bs_sched.specs.declared.opening.Open.{Open}
use Rattle.bs_sched.specs.declared.opening.Open.TheVariants as opening
use Rattle.bs_registry.specs.Blocks.{blocks_of_all}
use Rattle.bs_transcript.specs.declared.fault.TranscriptFault.{TranscriptFault}
use Rattle.bs_transcript.specs.declared.fault.TranscriptFault.TheVariants as transcript
use Rattle.bs_workers.specs.declared.fault.Run.{Run}
use Rattle.bs_workers.specs.declared.fault.Run.TheVariants as run
use Rattle.bs_host.specs.declared.cut_fault.Cut.{Cut}
use Rattle.bs_host.specs.declared.cut_fault.Cut.TheVariants as cut
use Rattle.bs_host.specs.declared.fault.Fault.{Fault}
use Rattle.bs_host.specs.declared.fault.Fault.TheVariants.{Device, TooLong, Plan as OfPlan, NoSuchGame, Memory, Write, Broken}
use Rattle.bs_host.specs.declared.fault.PlanRefusal.TheVariants as refusal
use Rattle.bs_host.specs.declared.limits.TheConstants.{BLOCK_BYTES, MOST_FILE_BYTES}
use Rattle.bs_host.specs.declared.read.ReadFault.{ReadFault}
use Rattle.bs_host.specs.declared.read.ReadFault.TheVariants as read
use Rattle.bs_host.specs.File.{plan_of}

abbrev pub fault_of : PlanFault → Fault
fault_of plan.Malformed = OfPlan refusal.Malformed
fault_of plan.BadRow = OfPlan refusal.BadRow
fault_of plan.TooMany = OfPlan refusal.TooMany
fault_of plan.Memory = Memory

abbrev pub fault_of_opening : Open → Fault
fault_of_opening opening.Short = OfPlan refusal.Short
fault_of_opening opening.Memory = Memory

abbrev pub fault_of_run : Run → Fault
fault_of_run run.Memory = Memory
fault_of_run run.Broken = Broken

abbrev pub fault_of_writing : TranscriptFault → Fault
fault_of_writing transcript.Memory = Memory
fault_of_writing (transcript.Write fault) = Write fault.written

abbrev pub fault_of_reading : ReadFault → Fault
fault_of_reading read.Device = Device
fault_of_reading read.TooLong = TooLong
fault_of_reading read.Memory = Memory

abbrev pub fault_of_cutting : Cut → Fault
fault_of_cutting cut.TooLong = TooLong
fault_of_cutting (cut.Plan reason) = OfPlan reason
fault_of_cutting cut.NoSuchGame = NoSuchGame
fault_of_cutting cut.Memory = Memory

abbrev pub refusal_of_plan : ℕ → Result Plan PlanFault → Option Fault
refusal_of_plan blocks (Err fault) = Some (fault_of fault)
refusal_of_plan blocks (Ok plan) = if nat_lt blocks (blocks_of_all BLOCK_BYTES plan.rows) then Some (OfPlan refusal.Short) else None

-- the first reason against serving the file with `blocks` blocks
unfoldable pub refusal_of : ℕ → List ℕ → Option Fault
refusal_of blocks file = if nat_lt MOST_FILE_BYTES (length file) then Some TooLong else refusal_of_plan blocks (plan_of file)

-- What `serve` may return: the first reason; a fault of the writer, if there is none; a run that is
-- broken off, if there is none and the gate may refuse a job. Nothing is claimed of `Memory`.
abbrev pub IsFault : Type 0 → Option Fault → Fault → Type 0
IsFault refuses refusal TooLong = refusal ≡ Some TooLong
IsFault refuses refusal (OfPlan reason) = refusal ≡ Some (OfPlan reason)
IsFault refuses refusal Memory = Unit {0}
IsFault refuses refusal (Write written) = refusal ≡ None
IsFault refuses refusal Broken = (refusal ≡ None) × refuses
IsFault refuses refusal _ = ⊥

-- a fault of the writer has this cause; nothing is claimed of the others
abbrev pub HasCause : Type 0 → Fault → Type 0
HasCause failed (Write written) = failed
HasCause failed _ = Unit {0}

-- what the writer has after the fault: a proper prefix of the text, of the length that the fault
-- gives; or nothing new
abbrev pub Leaves : {W : Type 0} → (W → Option (List ℕ)) → List ℕ → W → W → Fault → Type 0
Leaves contents text old new (Write written) = (written < length text) × Appends (contents old) (contents new) (take written text)
Leaves contents text old new _ = new ≡ old
