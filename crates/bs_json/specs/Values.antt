-- Readers of JSON values. A reader gives None if a member is missing, of another type, or out of
-- range.
use Rattle.std.specs.Prelude.{ℕ, List, [], ◌∷◌, Option, Some, None, option_map, option_and_then, if◌then◌else◌, nat_le}
use Rattle.std.specs.Str.{is_utf8}
use Rattle.serde_json.specs.Data.{Data, Items, no_items, item}
use Rattle.serde_json.specs.Read.{read}
use Rattle.serde_json.specs.Find.{get, as_str, as_number, as_u64, as_array}

-- the value that the bytes are as JSON text
unfoldable pub value_of : List ℕ → Option Data
value_of bytes = if is_utf8 bytes then read bytes else None

infixl 10 ◌>>=◌
abbrev pub ◌>>=◌ : {A B : Type 0} → Option A → (A → Option B) → Option B
o >>= f = option_and_then f o

-- a whole number of at most 64 bits, as written without a point or an exponent
abbrev pub whole : Data → Option ℕ
whole d = option_and_then as_u64 (as_number d)

abbrev pub at_most : ℕ → ℕ → Option ℕ
at_most most n = if nat_le n most then Some n else None

abbrev pub whole_to : ℕ → Data → Option ℕ
whole_to most d = whole d >>= at_most most

abbrev pub number_at : List ℕ → ℕ → Data → Option ℕ
number_at name most d = get name d >>= whole_to most

-- f of a member; `default` if it is left out
abbrev pub or_default : {A : Type 0} → (Data → Option A) → A → Option Data → Option A
or_default f default None = Some default
or_default f default (Some d) = f d

abbrev pub number_or : List ℕ → ℕ → ℕ → Data → Option ℕ
number_or name most default d = or_default (whole_to most) default (get name d)

abbrev pub text_at : List ℕ → Data → Option (List ℕ)
text_at name d = get name d >>= as_str

-- f of each item, if it gives a value for all of them
abbrev pub each : {A : Type 0} → (Data → Option A) → Items → Option (List A)
each f no_items = Some []
each f (item d ds) = f d >>= λ a. option_map (λ rest. a ∷ rest) (each f ds)

abbrev pub list_of : {A : Type 0} → (Data → Option A) → Data → Option (List A)
list_of f d = as_array d >>= each f

abbrev pub list_at : {A : Type 0} → List ℕ → (Data → Option A) → Data → Option (List A)
list_at name f d = get name d >>= list_of f
