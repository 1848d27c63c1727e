-- The least number of bytes of a JSON text with this content: brackets, commas, colons, texts and
-- numbers.
use Rattle.std.specs.Prelude.{ℕ, ◌+◌, Bool, false, List, [], ◌∷◌, length, cond, max, decimal}
use Rattle.json.specs.Token as t
use Rattle.json.specs.Token.{Token}
use Rattle.json.specs.Print.{ends, quoted}
use Rattle.json.specs.Lex.{Lexeme, token, comma, colon}
use Rattle.json.specs.Json as json
use Rattle.serde_json.specs.Data.{Num, unsigned, negative, float, Data, null, boolean, number, string, array, object, Items, no_items, item, Members, no_members, member}

-- literals are not counted
abbrev pub token_cost : Token → ℕ
token_cost t.begin_object = 1
token_cost t.end_object = 1
token_cost t.begin_array = 1
token_cost t.end_array = 1
token_cost (t.key s) = length (quoted s) + 1
token_cost (t.string s) = length (quoted s)
token_cost (t.number s) = length s
token_cost (t.boolean b) = 0
token_cost t.null = 0
token_cost t.bad = 0

abbrev pub lexeme_cost : Lexeme → ℕ
lexeme_cost (token t) = token_cost t
lexeme_cost comma = 1
lexeme_cost colon = 1

abbrev pub lexemes_cost : List Lexeme → ℕ
lexemes_cost [] = 0
lexemes_cost (l ∷ ls) = lexeme_cost l + lexemes_cost ls

-- Tokens, with the commas between them.

abbrev pub needs_comma : Bool → Token → Bool
needs_comma later t.begin_object = later
needs_comma later t.end_object = false
needs_comma later t.begin_array = later
needs_comma later t.end_array = false
needs_comma later (t.key s) = later
needs_comma later (t.string s) = later
needs_comma later (t.number s) = later
needs_comma later (t.boolean b) = later
needs_comma later t.null = later
needs_comma later t.bad = false

abbrev pub comma_cost : Bool → ℕ
comma_cost later = cond later 1 0

abbrev pub tokens_cost : Bool → List Token → ℕ
tokens_cost later [] = 0
tokens_cost later (t ∷ ts) = comma_cost (needs_comma later t) + token_cost t + tokens_cost (ends t) ts

-- JSON values

abbrev mutual
  pub json_cost : json.Json → ℕ
  json_cost json.null = 0
  json_cost (json.boolean b) = 0
  json_cost (json.number s) = length s
  json_cost (json.string s) = length (quoted s)
  json_cost (json.array js) = 1 + items_cost js
  json_cost (json.object ms) = 1 + members_cost ms

  -- a comma for each
  pub items_cost : json.Items → ℕ
  items_cost json.no_items = 0
  items_cost (json.item j js) = 1 + json_cost j + items_cost js

  pub members_cost : json.Members → ℕ
  members_cost json.no_members = 0
  members_cost (json.member k j ms) = 1 + (length (quoted k) + 1) + json_cost j + members_cost ms

-- What was parsed.

abbrev pub number_cost : Num → ℕ
number_cost (unsigned n) = max 1 (length (decimal n))
number_cost (negative z) = 0
number_cost (float x) = 0

abbrev mutual
  pub data_cost : Data → ℕ
  data_cost null = 0
  data_cost (boolean b) = 0
  data_cost (number n) = number_cost n
  data_cost (string s) = length (quoted s)
  data_cost (array ds) = 1 + list_cost ds
  data_cost (object ms) = 1 + object_cost ms

  pub list_cost : Items → ℕ
  list_cost no_items = 0
  list_cost (item d ds) = 1 + data_cost d + list_cost ds

  pub object_cost : Members → ℕ
  object_cost no_members = 0
  object_cost (member k d ms) = 1 + (length (quoted k) + 1) + data_cost d + object_cost ms
