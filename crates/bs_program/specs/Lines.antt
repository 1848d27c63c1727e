-- The line of each fault, and the fault of words that were not read.
use Rattle.std.specs.Prelude.{ℕ, List, [], ◌∷◌, ◌++◌, codes}
use Rattle.std.specs.declared.io.ErrorKind.{ErrorKind}
use Rattle.std.specs.declared.io.ErrorKind.TheVariants as io
use Rattle.bs_host.specs.declared.fault.Fault.{Fault}
use Rattle.bs_host.specs.declared.fault.Fault.TheVariants.{NoText, Memory}
use Rattle.bs_host.specs.Statuses.{text_of}

-- the line on the standard error, with its line feed
abbrev pub line_of : Fault → List ℕ
line_of fault = codes "arena: " ++ text_of fault ++ 10 ∷ []

-- why the words of the command line were not read, by the kind of the system's error
abbrev pub fault_of_words : ErrorKind → Fault
fault_of_words io.InvalidData = NoText
fault_of_words _ = Memory
