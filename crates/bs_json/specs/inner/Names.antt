-- Where the bytes of a name are.
use Rattle.std.specs.Prelude.{ℕ, List}
use Rattle.bs_json.specs.declared.name.NameText.{NameText}
use Rattle.bs_json.specs.declared.name.NameText.TheVariants as text

abbrev pub name_bytes : NameText → List ℕ
name_bytes (text.Lent bytes) = bytes.now
name_bytes (text.Own id) = id.value
