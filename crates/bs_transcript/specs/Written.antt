-- What a writer has of a text.
use Rattle.std.specs.Prelude.{◌≡◌, ℕ, ◌<◌, List, length, take, Option}
use Rattle.std.specs.Io.KnownBytes.{Appends}
use Rattle.bs_transcript.specs.declared.fault.TranscriptFault.{TranscriptFault}
use Rattle.bs_transcript.specs.declared.fault.TranscriptFault.TheVariants.{Memory, Write}

-- the first `written` bytes of the text were written, which are fewer than all
abbrev pub IsCutOff : ℕ → Option (List ℕ) → Option (List ℕ) → List ℕ → Type 0
IsCutOff written old new text = (written < length text) × Appends old new (take written text)

-- what the writer has after the fault: nothing new, or the first bytes of the text, as many as the
-- fault says and fewer than all
abbrev pub Leaves : {W : Type 0} → (W → Option (List ℕ)) → List ℕ → W → W → TranscriptFault → Type 0
Leaves contents text old new Memory = new ≡ old
Leaves contents text old new (Write fault) = IsCutOff fault.written (contents old) (contents new) text

-- a fault of the writer has this cause; nothing is claimed of `Memory`
abbrev pub HasCause : Type 0 → TranscriptFault → Type 0
HasCause failed Memory = Unit {0}
HasCause failed (Write fault) = failed
