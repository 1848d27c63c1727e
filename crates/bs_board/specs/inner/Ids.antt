-- Where the bytes of an id lie.
use Rattle.std.specs.Prelude.{ℕ, List, string_bytes}
use Rattle.bs_board.specs.declared.id.Text.{Text}
use Rattle.bs_board.specs.declared.id.Text.TheVariants as text

abbrev pub bytes_of : Text → List ℕ
bytes_of (text.Inside short) = short.bytes
bytes_of (text.Apart long) = string_bytes long
