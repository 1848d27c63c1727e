-- Bytes that were parsed, or refused.
use Rattle.std.proofs.Common.{◌≡◌, ℕ, List, Bool, true, false, cond, Option, Some, None, IsUtf8, refl}
use Rattle.std.proofs.lemmas.Str.{is_utf8-from_IsUtf8, IsUtf8-from_is_utf8}
use Rattle.std.specs.Str.{is_utf8}
use Rattle.serde_json.specs.Data.{Data}
use Rattle.serde_json.specs.Read.{read}
use Rattle.bs_json.specs.Values.{value_of}

pub value_of_read : (bs : List ℕ) (d : Data) → IsUtf8 bs → read bs ≡ Some d → value_of bs ≡ Some d
unfolding value_of
value_of_read bs d utf8 is = rw (is_utf8-from_IsUtf8 bs utf8) is

refused_if : (b : Bool) (o : Option Data) → (b ≡ true → o ≡ None) → cond b o None ≡ None
refused_if true o none = none refl
refused_if false o none = refl

pub value_of_refused : (bs : List ℕ) → (IsUtf8 bs → read bs ≡ None) → value_of bs ≡ None
unfolding value_of
value_of_refused bs none = refused_if (is_utf8 bs) (read bs) (λ is. none (IsUtf8-from_is_utf8 bs is))
