-- The table of exit statuses in docs/USAGE.md: the status of each fault, and the text of its line.
use Rattle.std.specs.Prelude.{ℕ, List, ◌++◌, codes, decimal}
use Rattle.bs_host.specs.declared.fault.Fault.{Fault}
use Rattle.bs_host.specs.declared.fault.Fault.TheVariants.{NoText, Device, TooLong, Plan, NoSuchGame, Memory, Write, Flush, Broken}
use Rattle.bs_host.specs.declared.fault.PlanRefusal.{PlanRefusal}
use Rattle.bs_host.specs.declared.fault.PlanRefusal.TheVariants.{Malformed, BadRow, TooMany, Short}

abbrev pub status_of : Fault → ℕ
status_of NoText = 2
status_of Device = 3
status_of TooLong = 3
status_of (Plan refusal) = 4
status_of NoSuchGame = 4
status_of Memory = 5
status_of (Write written) = 6
status_of Flush = 6
status_of Broken = 7

abbrev pub plan_text_of : PlanRefusal → List ℕ
plan_text_of Malformed = codes "plan P1"
plan_text_of BadRow = codes "plan P2"
plan_text_of TooMany = codes "plan P3"
plan_text_of Short = codes "plan P4"

abbrev pub text_of : Fault → List ℕ
text_of NoText = codes "a word of the command line is no UTF-8"
text_of Device = codes "cannot read the file"
text_of TooLong = codes "file too long"
text_of (Plan refusal) = plan_text_of refusal
text_of NoSuchGame = codes "no such game"
text_of Memory = codes "out of memory"
text_of (Write written) = codes "write failed after " ++ decimal written ++ codes " bytes"
text_of Flush = codes "flush failed"
text_of Broken = codes "broken"
