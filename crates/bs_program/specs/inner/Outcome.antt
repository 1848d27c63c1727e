-- What private contracts add to specs/Outcome.
use Rattle.std.specs.Prelude.{◌≡◌, ℕ, List, true, Option, Ok, Err}
use Rattle.std.specs.Io.KnownBytes.{Keeps}
use Rattle.bs_host.specs.declared.fault.Fault.TheVariants.{Flush}
use Rattle.bs_program.specs.declared.stream.Output.{Output}
use Rattle.bs_program.specs.Streams.{held_by}
use Rattle.bs_program.specs.Outcome.{Answer}

-- a flush changes no byte, and the output notes that it succeeded
abbrev pub Finishes : {W : Type 0} → (W → Option (List ℕ)) → Output W → Output W → Answer → Type 0
Finishes contents old new (Ok done) = Keeps (held_by contents old) (held_by contents new) × (new.is_flushed ≡ true)
Finishes contents old new (Err Flush) = Keeps (held_by contents old) (held_by contents new) × (new.has_failed ≡ true)
Finishes contents old new (Err _) = ⊥
