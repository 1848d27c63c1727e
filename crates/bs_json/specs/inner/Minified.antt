-- A line without the white space between its tokens.
use Rattle.std.specs.Prelude.{ℕ, List, [], ◌∷◌, Bool, true, false, not, ◌==◌, Option, Some, None, option_map, option_and_then, if◌then◌else◌}
use Rattle.std.specs.Char.{is_ascii_digit}
use Rattle.json.specs.Lex.{Class, quote, backslash, operator, space, other, class}
use Rattle.bs_json.specs.inner.Compact.{is_plain}
use Rattle.bs_json.specs.declared.minified.Place.{Place}
use Rattle.bs_json.specs.declared.minified.Place.TheVariants.{Between, Number, Ended, Text}

abbrev pub behind_first_digit : ℕ → Option Place
behind_first_digit byte = if byte == 48 then Some Ended else (if is_ascii_digit byte then Some Number else None)

abbrev pub behind_digit : ℕ → Option Place
behind_digit byte = if is_ascii_digit byte then Some Number else None

abbrev pub behind_plain : ℕ → Option Place
behind_plain byte = if is_plain byte then Some Text else None

-- the place behind a byte of that class; None behind a byte that is left to the JSON reader
abbrev pub next_place : Place → Class → ℕ → Option Place
next_place Between quote byte = Some Text
next_place Between backslash byte = None
next_place Between operator byte = Some Between
next_place Between space byte = Some Between
next_place Between other byte = behind_first_digit byte
next_place Number quote byte = None
next_place Number backslash byte = None
next_place Number operator byte = Some Between
next_place Number space byte = Some Ended
next_place Number other byte = behind_digit byte
next_place Ended quote byte = None
next_place Ended backslash byte = None
next_place Ended operator byte = Some Between
next_place Ended space byte = Some Ended
next_place Ended other byte = None
next_place Text quote byte = Some Between
next_place Text backslash byte = None
next_place Text operator byte = behind_plain byte
next_place Text space byte = behind_plain byte
next_place Text other byte = behind_plain byte

abbrev pub is_blank : Class → Bool
is_blank quote = false
is_blank backslash = false
is_blank operator = false
is_blank space = true
is_blank other = false

-- white space is kept within a string alone
abbrev pub is_kept : Place → Class → Bool
is_kept Between c = not (is_blank c)
is_kept Number c = not (is_blank c)
is_kept Ended c = not (is_blank c)
is_kept Text c = true

abbrev pub before_rest : Bool → ℕ → List ℕ → List ℕ
before_rest true byte rest = byte ∷ rest
before_rest false byte rest = rest

-- the text from that place on
abbrev pub minified : Place → List ℕ → Option (List ℕ)
minified place [] = Some []
minified place (byte ∷ text) =
    option_and_then (λ next. option_map (before_rest (is_kept place (class byte)) byte) (minified next text)) (next_place place (class byte) byte)
