-- Text that is appended piece by piece, with a fixed capacity.
use Rattle.std.specs.Prelude.{ℕ, ◌+◌, ◌-◌, ◌^◌, List, [], ◌∷◌, ◌++◌, if◌then◌else◌, length, min, nat_lt}

-- The stored bytes, the number of bytes for which there was no room (at most 2 ^ 64 - 1), and the
-- capacity in bytes.
pub record Text : Type 0 where
  pub bytes : List ℕ
  pub missing : ℕ
  pub room : ℕ

abbrev pub blank : ℕ → Text
blank room = record { bytes = []; missing = 0; room = room }

abbrev pub put_byte : Text → ℕ → Text
put_byte text byte =
    if nat_lt (length text.bytes) text.room
    then record { bytes = text.bytes ++ byte ∷ []; missing = text.missing; room = text.room }
    else record { bytes = text.bytes; missing = min (text.missing + 1) (2 ^ 64 - 1); room = text.room }

-- The text with a piece appended.
unfoldable pub put : Text → List ℕ → Text
put text [] = text
put text (byte ∷ piece) = put (put_byte text byte) piece
