-- What an output records of its writer, and an input of its reader.
use Rattle.std.specs.Prelude.{◌≡◌, ℕ, Bool, false, true, nat_lt, Result, Ok, Err, List, Option}
use Rattle.bs_program.specs.declared.input.Input.{Input}
use Rattle.bs_program.specs.declared.stream.Output.{Output}

-- the writer took a byte
abbrev pub is_gain : {E : Type 0} → Result ℕ E → Bool
is_gain (Ok count) = nat_lt 0 count
is_gain (Err error) = false

-- the bytes of an output, if they are known of its writer
abbrev pub held_by : {W : Type 0} → (W → Option (List ℕ)) → Output W → Option (List ℕ)
held_by contents output = contents output.writer

-- the last call was a flush that succeeded
abbrev pub is_flushed : {W : Type 0} → Output W → Bool
is_flushed output = output.is_flushed

-- the writer took a byte at some call
abbrev pub has_bytes : {W : Type 0} → Output W → Bool
has_bytes output = output.has_bytes

-- a call of the writer failed
abbrev pub has_failed : {W : Type 0} → Output W → Bool
has_failed output = output.has_failed

-- the bytes that an input has left, if they are known of its reader
abbrev pub left_in : {R : Type 0} → (R → Option (List ℕ)) → Input R → Option (List ℕ)
left_in remaining input = remaining input.reader

-- a call of the reader failed
abbrev pub HasReadFailed : {R : Type 0} → Input R → Type 0
HasReadFailed input = input.has_failed ≡ true
