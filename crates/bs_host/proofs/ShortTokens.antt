-- The tokens of a text, with the commas between them, cost at most as much as its bytes.
use Rattle.std.proofs.Common.{◌≡◌, ℕ, ◌+◌, ◌≤◌, Bool, true, false, cond, List, [], ◌∷◌, ◌++◌, length, refl, sym, ap, ◌∙◌, arith, append-nil, append_assoc}
use Rattle.json.specs.Token.{Token}
use Rattle.json.specs.Lex.{Lexeme, token, comma, colon, Place, fresh, after_value, after_comma, after_key, begins_colon, may_begin, may_close, if_allowed, place_token, punctuate, tokens, lex, between}
use Rattle.json.specs.Print.{ends}
use Rattle.json.specs.Json as json
use Rattle.json.specs.Tree.{json_tokens, items_tokens, members_tokens}
use Rattle.bs_host.proofs.TextCost.{token_cost, lexemes_cost, needs_comma, comma_cost, tokens_cost, json_cost, items_cost, members_cost}
use Rattle.bs_host.proofs.ShortLexemes.{spent}

-- whether a value comes before this place
abbrev is_later : Place → Bool
is_later fresh = false
is_later after_value = true
is_later after_comma = true
is_later after_key = false

-- the comma before this place
abbrev paid : Place → ℕ
paid fresh = 0
paid after_value = 0
paid after_comma = 1
paid after_key = 0

-- the colon that was counted with the key before it
abbrev owed : Place → List Lexeme → ℕ
owed fresh ls = 0
owed after_value ls = 0
owed after_comma ls = 0
owed after_key ls = cond (begins_colon ls) 1 0

abbrev Bounded : List Lexeme → Type 0
Bounded ls = (p : Place) → tokens_cost (is_later p) (punctuate p ls) + owed p ls ≤ lexemes_cost ls + paid p

no_cost : (n : ℕ) (b : Bool) → tokens_cost b (Token.bad ∷ []) ≤ n
no_cost n true = omega arith
no_cost n false = omega arith

-- a token that may come wherever a value may begin
begins_here : (p : Place) (t : Token) (next : Place) (ls : List Lexeme) → ends t ≡ is_later next → needs_comma (is_later p) t ≡ is_later p → owed next ls ≡ 0 → paid next ≡ 0 → Bounded ls
    → tokens_cost (is_later p) (if_allowed (may_begin p) t (λ q. punctuate q ls) next) ≤ token_cost t + lexemes_cost ls + paid p
begins_here fresh t next ls is needs none free each = let few = each next in rw (needs, is) (omega (arith, few, none, free))
begins_here after_value t next ls is needs none free each = omega arith
begins_here after_comma t next ls is needs none free each = let few = each next in rw (needs, is) (omega (arith, few, none, free))
begins_here after_key t next ls is needs none free each = omega arith

closes_here : (p : Place) (t : Token) (ls : List Lexeme) → ends t ≡ true → needs_comma (is_later p) t ≡ false → Bounded ls
    → tokens_cost (is_later p) (if_allowed (may_close p) t (λ q. punctuate q ls) after_value) ≤ token_cost t + lexemes_cost ls + paid p
closes_here fresh t ls is needs each = let few = each after_value in rw (needs, is) (omega (arith, few))
closes_here after_value t ls is needs each = let few = each after_value in rw (needs, is) (omega (arith, few))
closes_here after_comma t ls is needs each = omega arith
closes_here after_key t ls is needs each = omega arith

owes_one : (ls : List Lexeme) → begins_colon ls ≡ true → owed after_key ls ≡ 1
owes_one ls is = rw is refl

key_here : (p : Place) (s : List ℕ) (ls : List Lexeme) → begins_colon ls ≡ true → Bounded ls
    → tokens_cost (is_later p) (if_allowed (may_begin p) (Token.key s) (λ q. punctuate q ls) after_key) ≤ token_cost (Token.string s) + lexemes_cost ls + paid p
key_here fresh s ls is each = let few = each after_key in omega (arith, few, owes_one ls is)
key_here after_value s ls is each = omega arith
key_here after_comma s ls is each = let few = each after_key in omega (arith, few, owes_one ls is)
key_here after_key s ls is each = omega arith

text_here : (p : Place) (s : List ℕ) (b : Bool) (ls : List Lexeme) → begins_colon ls ≡ b → Bounded ls
    → tokens_cost (is_later p) (place_token p (Token.string s) b (λ q. punctuate q ls)) ≤ token_cost (Token.string s) + lexemes_cost ls + paid p
text_here p s true ls is each = key_here p s ls is each
text_here p s false ls is each = begins_here p (Token.string s) after_value ls refl refl refl refl each

token_here : (p : Place) (t : Token) (ls : List Lexeme) → Bounded ls
    → tokens_cost (is_later p) (place_token p t (begins_colon ls) (λ q. punctuate q ls)) ≤ token_cost t + lexemes_cost ls + paid p
token_here p Token.begin_object ls each = begins_here p Token.begin_object fresh ls refl refl refl refl each
token_here p Token.end_object ls each = closes_here p Token.end_object ls refl refl each
token_here p Token.begin_array ls each = begins_here p Token.begin_array fresh ls refl refl refl refl each
token_here p Token.end_array ls each = closes_here p Token.end_array ls refl refl each
token_here p (Token.key s) ls each = no_cost _ (is_later p)
token_here p (Token.string s) ls each = text_here p s (begins_colon ls) ls refl each
token_here p (Token.number s) ls each = begins_here p (Token.number s) after_value ls refl refl refl refl each
token_here p (Token.boolean b) ls each = begins_here p (Token.boolean b) after_value ls refl refl refl refl each
token_here p Token.null ls each = begins_here p Token.null after_value ls refl refl refl refl each
token_here p Token.bad ls each = no_cost _ (is_later p)

bounded : (ls : List Lexeme) → Bounded ls
unfolding punctuate
bounded [] fresh = omega arith
bounded [] after_value = omega arith
bounded [] after_comma = omega arith
bounded [] after_key = omega arith
bounded (token t ∷ ls) fresh = let few = token_here fresh t ls (bounded ls) in omega (arith, few)
bounded (token t ∷ ls) after_value = let few = token_here after_value t ls (bounded ls) in omega (arith, few)
bounded (token t ∷ ls) after_comma = let few = token_here after_comma t ls (bounded ls) in omega (arith, few)
bounded (token t ∷ ls) after_key = let few = token_here after_key t ls (bounded ls) in omega (arith, few)
bounded (comma ∷ ls) fresh = omega arith
bounded (comma ∷ ls) after_value = let few = bounded ls after_comma in omega (arith, few)
bounded (comma ∷ ls) after_comma = omega arith
bounded (comma ∷ ls) after_key = omega arith
bounded (colon ∷ ls) fresh = omega arith
bounded (colon ∷ ls) after_value = omega arith
bounded (colon ∷ ls) after_comma = omega arith
bounded (colon ∷ ls) after_key = let few = bounded ls fresh in omega (arith, few)

pub tokens_spent : (text : List ℕ) → tokens_cost false (tokens text) ≤ length text
tokens_spent text = let few = bounded (lex between text) fresh in omega (arith, few, spent between text)

-- The tokens of one value.

mutual
  value_cost : (later : Bool) (j : json.Json) (ts : List Token) → comma_cost later + json_cost j + tokens_cost true ts ≤ tokens_cost later (json_tokens j ++ ts)
  value_cost later json.null ts = omega arith
  value_cost later (json.boolean b) ts = omega arith
  value_cost later (json.number s) ts = omega arith
  value_cost later (json.string s) ts = omega arith
  value_cost later (json.array js) ts = let few = items_few false js ts in omega (arith, few)
  value_cost later (json.object ms) ts = let few = members_few false ms ts in omega (arith, few)

  items_few : (later : Bool) (js : json.Items) (ts : List Token) → items_cost js + tokens_cost true ts + comma_cost later ≤ tokens_cost later (items_tokens js ++ ts)
  items_few true json.no_items ts = omega arith
  items_few false json.no_items ts = omega arith
  items_few later (json.item j js) ts =
      let first = value_cost later j (items_tokens js ++ ts) in
      let more = items_few true js ts in
      let all = ap (tokens_cost later) (append_assoc (json_tokens j) (items_tokens js) ts) in
      omega (arith, first, more, all)

  members_few : (later : Bool) (ms : json.Members) (ts : List Token) → members_cost ms + tokens_cost true ts + comma_cost later ≤ tokens_cost later (members_tokens ms ++ ts)
  members_few true json.no_members ts = omega arith
  members_few false json.no_members ts = omega arith
  members_few later (json.member k j ms) ts =
      let first = value_cost false j (members_tokens ms ++ ts) in
      let more = members_few true ms ts in
      let all = ap (tokens_cost false) (append_assoc (json_tokens j) (members_tokens ms) ts) in
      omega (arith, first, more, all)

pub value_spent : (text : List ℕ) (j : json.Json) → tokens text ≡ json_tokens j → json_cost j ≤ length text
value_spent text j is =
    let few = value_cost false j [] in
    let all = ap (tokens_cost false) (is ∙ sym (append-nil (json_tokens j))) in
    omega (arith, few, all, tokens_spent text)
