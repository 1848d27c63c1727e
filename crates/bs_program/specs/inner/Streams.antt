-- What private contracts add to specs/Streams.
use Rattle.std.specs.Prelude.{Bool}
use Rattle.bs_program.specs.declared.stream.Output.{Output}

-- a call of the writer failed
abbrev pub has_failed : {W : Type 0} → Output W → Bool
has_failed output = output.has_failed
