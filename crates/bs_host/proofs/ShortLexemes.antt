-- The lexemes of a text cost no more than its bytes.
use Rattle.std.proofs.Common.{◌≡◌, ℕ, suc, ◌+◌, ◌-◌, ◌/◌, ◌%◌, ◌≤◌, Bool, true, false, not, cond, ◌&&◌, ◌||◌, ◌==◌, nat_lt, List, [], ◌∷◌, ◌++◌, length, drop, Option, Some, None, option_and_then, inl, inr, refl, sym, ap, ◌∙◌, subst, arith}
use Rattle.std.proofs.lemmas.Bool.{false≢true, true≢false, eqb-true, and_parts, or_cases, cases_Bool}
use Rattle.std.proofs.lemmas.List.{length-append, length-take}
use Rattle.std.specs.Prelude.{⊤}
use Rattle.std.specs.List.{prefix_len}
use Rattle.std.specs.Char.{is_ascii_digit, is_digit, encode_utf8}
use Rattle.json.specs.Token.{Token}
use Rattle.json.specs.Text.{code_unit, short_escape, is_high_surrogate, is_low_surrogate, surrogate_pair, Within, plain, after_backslash, after_u, after_high, prepend, content}
use Rattle.json.specs.Word.{is_operator, is_space, head, ends_word, after_digits, after_minus, after_sign, after_whole, after_fraction, after_exponent, after_number, number_before, word}
use Rattle.json.specs.Lex.{Lexeme, comma, colon, Class, quote, backslash, operator, space, other, class, Mode, between, in_word, in_string, in_escape, lex, lex_byte, string_token, operator_lexeme}
use Rattle.json.specs.Print.{escape, escape_byte}
use Rattle.bs_host.proofs.TextCost.{token_cost, lexeme_cost, lexemes_cost}

-- Words: the number of bytes of a word, which has no operator and no space.

abbrev is_within : ℕ → Bool
is_within x = not (is_operator x || is_space x)

abbrev word_len : List ℕ → ℕ
word_len = prefix_len is_within

-- r is the end of t, after bytes of the same word
abbrev Walks : List ℕ → List ℕ → Type 0
Walks t r = (length r ≤ length t) × (word_len t + length r ≡ word_len r + length t)

walks_on : (a b c : List ℕ) → Walks a b → Walks b c → Walks a c
walks_on a b c p q = (omega (arith, p.0, q.0), omega (arith, p.1, q.1))

stays : (t : List ℕ) → Walks t t
stays t = (omega arith, refl)

-- one byte of a word
one : (c : ℕ) (t : List ℕ) → is_within c ≡ true → (head t == c) ≡ true → Walks t (drop 1 t)
one c [] within is = absurd (true≢false (sym within ∙ ap is_within (sym (eqb-true 32 c is))))
one c (x ∷ xs) within is =
    let here : is_within x ≡ true = ap is_within (eqb-true x c is) ∙ within in
    (omega arith, rw here (omega arith))

if_one : (b : Bool) (t : List ℕ) → (b ≡ true → Walks t (drop 1 t)) → Walks t (cond b (drop 1 t) t)
if_one true t walks = walks refl
if_one false t walks = stays t

digit_within : (x : ℕ) → is_ascii_digit x ≡ true → is_within x ≡ true
digit_within x is = grind arith

digit_walks : (x : ℕ) (xs rest : List ℕ) → is_within x ≡ true → Walks xs rest → Walks (x ∷ xs) rest
digit_walks x xs rest within walks = (omega (arith, walks.0), rw within (omega (arith, walks.1)))

digit_or_not : (x : ℕ) (xs : List ℕ) (b : Bool) → is_ascii_digit x ≡ b → Walks xs (drop (prefix_len is_ascii_digit xs) xs)
    → Walks (x ∷ xs) (drop (cond b (1 + prefix_len is_ascii_digit xs) 0) (x ∷ xs))
digit_or_not x xs true is more =
    let n = prefix_len is_ascii_digit xs in
    let e : 1 + n ≡ suc n = omega arith in
    subst (λ m. Walks (x ∷ xs) (drop m (x ∷ xs))) (sym e) (digit_walks x xs (drop n xs) (digit_within x is) more)
digit_or_not x xs false is more = stays (x ∷ xs)

digits_walk : (t : List ℕ) → Walks t (drop (prefix_len is_ascii_digit t) t)
digits_walk [] = (omega arith, refl)
digits_walk (x ∷ xs) = digit_or_not x xs (is_ascii_digit x) refl (digits_walk xs)

abbrev WalksTo : List ℕ → Option (List ℕ) → Type 0
WalksTo t None = ⊤
WalksTo t (Some r) = Walks t r

walks_then : (t : List ℕ) (f : List ℕ → Option (List ℕ)) (o : Option (List ℕ)) → WalksTo t o → ((r : List ℕ) → WalksTo r (f r)) → WalksTo t (option_and_then f o)
walks_then t f None walks each = tt
walks_then t f (Some r) walks each = onward (f r) (each r)
  where
    onward : (o : Option (List ℕ)) → WalksTo r o → WalksTo t o
    onward None more = tt
    onward (Some s) more = walks_on t r s walks more

either_way : (b : Bool) (t : List ℕ) (x y : Option (List ℕ)) → (b ≡ true → WalksTo t x) → (b ≡ false → WalksTo t y) → WalksTo t (cond b x y)
either_way true t x y so less = so refl
either_way false t x y so less = less refl

digits_to : (t : List ℕ) → WalksTo t (after_digits t)
digits_to t = either_way _ t None (Some (drop (prefix_len is_ascii_digit t) t)) (λ none. tt) (λ some. digits_walk t)

from : (a t : List ℕ) (o : Option (List ℕ)) → Walks a t → WalksTo t o → WalksTo a o
from a t None walks more = tt
from a t (Some r) walks more = walks_on a t r walks more

minus_walks : (t : List ℕ) → Walks t (after_minus t)
minus_walks t = if_one (head t == 45) t (one 45 t refl)

or_one : (a b : ℕ) (t : List ℕ) → is_within a ≡ true → is_within b ≡ true → ((head t == a) || (head t == b)) ≡ true → Walks t (drop 1 t)
or_one a b t first second is = elim (cases_Bool (head t == a)) [
  | inl here ↦ one a t first here
  | inr less ↦ one b t second (rw less at is)
]

sign_walks : (t : List ℕ) → Walks t (after_sign t)
sign_walks t = if_one ((head t == 45) || (head t == 43)) t (or_one 45 43 t refl refl)

whole_to : (t : List ℕ) → WalksTo t (after_whole t)
whole_to t = either_way (head t == 48) t (Some (drop 1 t)) (after_digits t) (one 48 t refl) (λ less. digits_to t)

fraction_to : (t : List ℕ) → WalksTo t (after_fraction t)
fraction_to t =
    either_way (head t == 46) t (after_digits (drop 1 t)) (Some t) (λ so. from t (drop 1 t) _ (one 46 t refl so) (digits_to (drop 1 t))) (λ less. stays t)

exponent_to : (t : List ℕ) → WalksTo t (after_exponent t)
exponent_to t =
    either_way ((head t == 101) || (head t == 69)) t (after_digits (after_sign (drop 1 t))) (Some t)
    (λ so. from t (drop 1 t) _ (or_one 101 69 t refl refl so) (from (drop 1 t) (after_sign (drop 1 t)) _ (sign_walks (drop 1 t)) (digits_to (after_sign (drop 1 t)))))
    (λ less. stays t)

number_to : (t : List ℕ) → WalksTo t (after_number t)
unfolding after_number
number_to t =
    walks_then t after_exponent _
    (walks_then t after_fraction _ (from t (after_minus t) _ (minus_walks t) (whole_to (after_minus t))) fraction_to)
    exponent_to

ended : (r : List ℕ) → ends_word r ≡ true → word_len r ≡ 0
ended [] is = refl
ended (x ∷ xs) is = rw is refl

abbrev Few : ℕ → Token → Type 0
Few n t = token_cost t ≤ n

few_if : (n : ℕ) (b : Bool) (t u : Token) → (b ≡ true → Few n t) → (b ≡ false → Few n u) → Few n (cond b t u)
few_if n true t u so less = so refl
few_if n false t u so less = less refl

number_few : (t : List ℕ) (o : Option (List ℕ)) → WalksTo t o → Few (word_len t) (number_before t o)
number_few t None walks = omega arith
number_few t (Some r) walks =
    few_if (word_len t) (ends_word r) _ Token.bad
    (λ end. let none = ended r end in omega (arith, none, walks.0, walks.1, length-take (length t - length r) t))
    (λ less. omega arith)

literal_few : (n : ℕ) (name : List ℕ) (b : Bool) (t : Token) → token_cost t ≡ 0 → Few n (cond b t Token.bad)
literal_few n name b t free = few_if n b t Token.bad (λ so. omega (arith, free)) (λ less. omega arith)

word_few : (t : List ℕ) → Few (word_len t) (word t)
unfolding word
word_few t =
    let n = word_len t in
    few_if n (head t == 116) _ _ (λ so. literal_few n [] _ (Token.boolean true) refl)
    (λ less. few_if n (head t == 102) _ _ (λ so. literal_few n [] _ (Token.boolean false) refl)
    (λ less. few_if n (head t == 110) _ _ (λ so. literal_few n [] _ Token.null refl) (λ less. number_few t (after_number t) (number_to t))))

-- Texts in quotes.

abbrev Fits : ℕ → ℕ → Option (List ℕ) → Type 0
Fits n used None = ⊤
Fits n used (Some s) = used + length (escape s) + 1 ≤ n

abbrev mode : Within → Mode
mode plain = in_string
mode after_backslash = in_escape
mode after_u = in_string
mode (after_high h) = in_string

-- the number of bytes of an escape so far
abbrev passed : Within → ℕ
passed plain = 0
passed after_backslash = 1
passed after_u = 2
passed (after_high h) = 6

fits_if : (n used : ℕ) (b : Bool) (x y : Option (List ℕ)) → (b ≡ true → Fits n used x) → (b ≡ false → Fits n used y) → Fits n used (cond b x y)
fits_if n used true x y so less = so refl
fits_if n used false x y so less = less refl

abbrev is_found : Option ℕ → Bool
is_found None = false
is_found (Some u) = true

all_hex : (b : Bool) (u : ℕ) → is_found (cond b (Some u) None) ≡ true → b ≡ true
all_hex true u h = refl
all_hex false u h = h

fits_then : (n used : ℕ) (f : ℕ → Option (List ℕ)) (o : Option ℕ) → ((u : ℕ) → o ≡ Some u → Fits n used (f u)) → Fits n used (option_and_then f o)
fits_then n used f None each = tt
fits_then n used f (Some u) each = each u refl

fits_more : (n m used less : ℕ) (r : Option (List ℕ)) → Fits m less r → m + used ≤ n + less → Fits n used r
fits_more n m used less None fits le = tt
fits_more n m used less (Some s) fits le = omega (arith, fits, le)

escape_append : (a s : List ℕ) → length (escape (a ++ s)) ≡ length (escape a) + length (escape s)
escape_append [] s = omega arith
escape_append (x ∷ a) s =
    omega (arith, length-append (escape_byte x) (escape (a ++ s)), length-append (escape_byte x) (escape a), escape_append a s)

fits_behind : (n m used less : ℕ) (a : List ℕ) (r : Option (List ℕ)) → Fits m less r → m + length (escape a) + used ≤ n + less → Fits n used (prepend a r)
fits_behind n m used less a None fits le = tt
fits_behind n m used less a (Some s) fits le = omega (arith, fits, le, escape_append a s)

-- the modes of the lexer within a text

passes : (o s : Bool) (x : ℕ) (xs : List ℕ) (k : Mode → List Lexeme) → lex_byte in_string (cond o operator (cond s space other)) x xs k ≡ k in_string
passes true s x xs k = refl
passes false true x xs k = refl
passes false false x xs k = refl

lex_plain : (x : ℕ) (xs : List ℕ) → (x == 34) ≡ false → (x == 92) ≡ false → lex in_string (x ∷ xs) ≡ lex in_string xs
unfolding lex
lex_plain x xs q b =
    (λ i. lex_byte in_string (cond (q i) quote (cond (b i) backslash (cond (is_operator x) operator (cond (is_space x) space other)))) x xs (λ n. lex n xs))
    ∙ passes (is_operator x) (is_space x) x xs (λ n. lex n xs)

lex_backslash : (x : ℕ) (xs : List ℕ) → (x == 92) ≡ true → lex in_string (x ∷ xs) ≡ lex in_escape xs
unfolding lex
lex_backslash x xs b = ap (λ y. lex in_string (y ∷ xs)) (eqb-true x 92 b)

lex_quote : (x : ℕ) (xs : List ℕ) → (x == 34) ≡ true → lex in_string (x ∷ xs) ≡ lex between xs
unfolding lex
lex_quote x xs q = ap (λ y. lex in_string (y ∷ xs)) (eqb-true x 34 q)

lex_escape : (x : ℕ) (xs : List ℕ) → lex in_escape (x ∷ xs) ≡ lex in_string xs
unfolding lex
lex_escape x xs = refl

not_this : (c x : ℕ) (t : Bool) → (t ≡ true → x ≡ c) → is_digit c 16 ≡ false → is_digit x 16 ≡ true → t ≡ false
not_this c x false e never h = refl
not_this c x true e never h = absurd (false≢true (sym never ∙ ap (λ y. is_digit y 16) (sym (e refl)) ∙ h))

lex_hex : (x : ℕ) (xs : List ℕ) → is_digit x 16 ≡ true → lex in_string (x ∷ xs) ≡ lex in_string xs
lex_hex x xs h = lex_plain x xs (not_this 34 x (x == 34) (eqb-true x 34) refl h) (not_this 92 x (x == 92) (eqb-true x 92) refl h)

lex_unit : (a b c d : ℕ) (xs : List ℕ) (u : ℕ) → code_unit a b c d ≡ Some u → lex in_string (a ∷ b ∷ c ∷ d ∷ xs) ≡ lex in_string xs
unfolding code_unit
lex_unit a b c d xs u is =
    let h = ap is_found is in
    let p = and_parts (is_digit a 16 && is_digit b 16 && is_digit c 16) (is_digit d 16) (all_hex _ _ h) in
    let q = and_parts (is_digit a 16 && is_digit b 16) (is_digit c 16) p.0 in
    let r = and_parts (is_digit a 16) (is_digit b 16) q.0 in
    lex_hex a (b ∷ c ∷ d ∷ xs) r.0 ∙ lex_hex b (c ∷ d ∷ xs) r.1 ∙ lex_hex c (d ∷ xs) q.1 ∙ lex_hex d xs p.1

-- the text that is written for one byte, and for a character

byte_six : (x : ℕ) → length (escape_byte x) ≤ 6
unfolding escape_byte
byte_six x = grind arith

big_byte : (x : ℕ) → 128 ≤ x → length (escape_byte x) ≤ 1
unfolding escape_byte
big_byte x big = grind arith

plain_byte : (x : ℕ) → (x == 34) ≡ false → (x == 92) ≡ false → nat_lt x 32 ≡ false → length (escape_byte x) ≤ 1
unfolding escape_byte
plain_byte x q b low = grind arith

abbrev FewOf : ℕ → Option ℕ → Type 0
FewOf n None = ⊤
FewOf n (Some c) = length (escape_byte c) ≤ n

few_of_if : (n : ℕ) (b : Bool) (x y : Option ℕ) → (b ≡ true → FewOf n x) → FewOf n y → FewOf n (cond b x y)
few_of_if n true x y so less = so refl
few_of_if n false x y so less = less

byte_by : (x c : ℕ) → length (escape_byte c) ≤ 2 → (x == c) ≡ true → length (escape_byte x) ≤ 2
byte_by x c few is = rw (eqb-true x c is) few

slash_byte : (x : ℕ) → ((x == 34) || (x == 92) || (x == 47)) ≡ true → length (escape_byte x) ≤ 2
unfolding escape_byte
slash_byte x is = elim (or_cases ((x == 34) || (x == 92)) (x == 47) is) [
  | inl first ↦ elim (or_cases (x == 34) (x == 92) first) [ inl here ↦ byte_by x 34 (omega arith) here | inr here ↦ byte_by x 92 (omega arith) here ]
  | inr here ↦ byte_by x 47 (omega arith) here
]

short_few : (x : ℕ) → FewOf 2 (short_escape x)
unfolding escape_byte short_escape
short_few x =
    few_of_if 2 _ (Some x) _ (slash_byte x)
    (few_of_if 2 (x == 98) (Some 8) _ (λ so. omega arith) (few_of_if 2 (x == 102) (Some 12) _ (λ so. omega arith)
    (few_of_if 2 (x == 110) (Some 10) _ (λ so. omega arith) (few_of_if 2 (x == 114) (Some 13) _ (λ so. omega arith) (few_of_if 2 (x == 116) (Some 9) _ (λ so. omega arith) tt)))))

few_found : (n c : ℕ) (o : Option ℕ) → FewOf n o → o ≡ Some c → length (escape_byte c) ≤ n
few_found n c o few is = rw is at few

one_byte : (x : ℕ) (s : List ℕ) → length (escape (x ∷ s)) ≡ length (escape_byte x) + length (escape s)
one_byte x s = length-append (escape_byte x) (escape s)

abbrev AtMost : ℕ → List ℕ → Type 0
AtMost n s = length (escape s) ≤ n

at_most_if : (n : ℕ) (b : Bool) (x y : List ℕ) → AtMost n x → AtMost n y → AtMost n (cond b x y)
at_most_if n true x y so less = so
at_most_if n false x y so less = less

two_six : (a b : ℕ) → 128 ≤ a → 128 ≤ b → AtMost 6 (a ∷ b ∷ [])
two_six a b p q = omega (arith, one_byte a (b ∷ []), one_byte b [], big_byte a p, big_byte b q)

three_six : (a b c : ℕ) → 128 ≤ a → 128 ≤ b → 128 ≤ c → AtMost 6 (a ∷ b ∷ c ∷ [])
three_six a b c p q r = omega (arith, one_byte a (b ∷ c ∷ []), one_byte b (c ∷ []), one_byte c [], big_byte a p, big_byte b q, big_byte c r)

four_six : (a b c d : ℕ) → 128 ≤ a → 128 ≤ b → 128 ≤ c → 128 ≤ d → AtMost 6 (a ∷ b ∷ c ∷ d ∷ [])
four_six a b c d p q r s =
    omega (arith, one_byte a (b ∷ c ∷ d ∷ []), one_byte b (c ∷ d ∷ []), one_byte c (d ∷ []), one_byte d [], big_byte a p, big_byte b q, big_byte c r, big_byte d s)

small_six : (u : ℕ) → AtMost 6 (u ∷ [])
small_six u = omega (arith, one_byte u [], byte_six u)

character_six : (u : ℕ) → AtMost 6 (encode_utf8 u)
unfolding encode_utf8
character_six u =
    let low : ℕ → ℕ = λ n. 128 + n % 64 in
    at_most_if 6 (nat_lt u 128) (u ∷ []) _ (small_six u)
    (at_most_if 6 (nat_lt u 2048) ((192 + u / 64) ∷ low u ∷ []) _ (two_six (192 + u / 64) (low u) (omega arith) (omega arith))
    (at_most_if 6 (nat_lt u 65536) ((224 + u / 4096) ∷ low (u / 64) ∷ low u ∷ []) ((240 + u / 262144) ∷ low (u / 4096) ∷ low (u / 64) ∷ low u ∷ [])
    (three_six (224 + u / 4096) (low (u / 64)) (low u) (omega arith) (omega arith) (omega arith))
    (four_six (240 + u / 262144) (low (u / 4096)) (low (u / 64)) (low u) (omega arith) (omega arith) (omega arith) (omega arith))))

-- All bytes.

abbrev cost_in : Mode → List ℕ → ℕ
cost_in m xs = lexemes_cost (lex m xs)

text_cost : (n used : ℕ) (o : Option (List ℕ)) → used ≤ n → Fits n used o → token_cost (string_token o) + used ≤ n + 1
text_cost n used None few fits = omega (arith, few)
text_cost n used (Some s) few fits = omega (arith, fits, length-append (escape s) (34 ∷ []))

one_if : (b : Bool) (l k : Lexeme) → lexeme_cost l ≤ 1 → lexeme_cost k ≤ 1 → lexeme_cost (cond b l k) ≤ 1
one_if true l k so less = so
one_if false l k so less = less

operator_one : (x : ℕ) → lexeme_cost (operator_lexeme x) ≤ 1
operator_one x =
    one_if (x == 123) _ _ (omega arith) (one_if (x == 125) _ _ (omega arith) (one_if (x == 91) _ _ (omega arith) (one_if (x == 93) _ _ (omega arith) (one_if (x == 44) comma colon (omega arith) (omega arith)))))

first_len : (b : Bool) (n : ℕ) → cond b (1 + n) 0 ≤ 1 + n
first_len true n = omega arith
first_len false n = omega arith

between_byte : (c : Class) (x : ℕ) (xs : List ℕ) → ((m : Mode) → cost_in m xs ≤ length xs) → cost_in in_word xs + word_len xs ≤ length xs
    → Fits (length xs + 0) (cost_in in_string xs) (content plain xs) → lexemes_cost (lex_byte between c x xs (λ m. lex m xs)) ≤ suc (length xs)
between_byte quote x xs each in_words in_texts =
    let few = each in_string in
    let text = text_cost (length xs + 0) (cost_in in_string xs) (content plain xs) (omega (arith, few)) in_texts in
    omega (arith, text)
between_byte backslash x xs each in_words in_texts = let few = each in_word in omega (arith, few)
between_byte operator x xs each in_words in_texts = let few = each between in omega (arith, few, operator_one x)
between_byte space x xs each in_words in_texts = let few = each between in omega (arith, few)
between_byte other x xs each in_words in_texts = let few = word_few (x ∷ xs) in omega (arith, few, in_words, first_len (is_within x) (word_len xs))

text_byte : (c : Class) (x : ℕ) (xs : List ℕ) → ((m : Mode) → cost_in m xs ≤ length xs) → lexemes_cost (lex_byte in_string c x xs (λ m. lex m xs)) ≤ suc (length xs)
text_byte quote x xs each = let few = each between in omega (arith, few)
text_byte backslash x xs each = let few = each in_escape in omega (arith, few)
text_byte operator x xs each = let few = each in_string in omega (arith, few)
text_byte space x xs each = let few = each in_string in omega (arith, few)
text_byte other x xs each = let few = each in_string in omega (arith, few)

word_byte : (q b o s : Bool) (x : ℕ) (xs : List ℕ) → cost_in between xs ≤ length xs → cost_in in_word xs + word_len xs ≤ length xs
    → lexemes_cost (lex_byte in_word (cond q quote (cond b backslash (cond o operator (cond s space other)))) x xs (λ m. lex m xs)) + cond (not (o || s)) (1 + word_len xs) 0 ≤ suc (length xs)
word_byte true b o s x xs after within = omega (arith, within, first_len (not (o || s)) (word_len xs))
word_byte false true o s x xs after within = omega (arith, within, first_len (not (o || s)) (word_len xs))
word_byte false false true s x xs after within = omega (arith, after, operator_one x)
word_byte false false false true x xs after within = omega (arith, after)
word_byte false false false false x xs after within = omega (arith, within)

mutual
  unfolding lex content

  pub spent : (m : Mode) (xs : List ℕ) → cost_in m xs ≤ length xs
  spent m [] = omega arith
  spent between (x ∷ xs) = between_byte (class x) x xs (λ m. spent m xs) (word_spent xs) (text_spent plain xs)
  spent in_word (x ∷ xs) = let few = word_byte (x == 34) (x == 92) (is_operator x) (is_space x) x xs (spent between xs) (word_spent xs) in omega (arith, few)
  spent in_string (x ∷ xs) = text_byte (class x) x xs (λ m. spent m xs)
  spent in_escape (x ∷ xs) = let few = spent in_string xs in omega (arith, few)

  word_spent : (xs : List ℕ) → cost_in in_word xs + word_len xs ≤ length xs
  word_spent [] = omega arith
  word_spent (x ∷ xs) = word_byte (x == 34) (x == 92) (is_operator x) (is_space x) x xs (spent between xs) (word_spent xs)

  text_spent : (w : Within) (xs : List ℕ) → Fits (length xs + passed w) (cost_in (mode w) xs) (content w xs)
  text_spent plain [] = tt
  text_spent plain (x ∷ xs) =
      let n = length (x ∷ xs) + 0 in
      let used = cost_in in_string (x ∷ xs) in
      fits_if n used (x == 34) _ _
      (λ q. let same = ap lexemes_cost (lex_quote x xs q) in let few = spent between xs in omega (arith, same, few))
      (λ q. fits_if n used (x == 92) _ _
      (λ b. let same = ap lexemes_cost (lex_backslash x xs b) in fits_more n (length xs + 1) used _ _ (text_spent after_backslash xs) (omega (arith, same)))
      (λ b. fits_if n used (nat_lt x 32) _ _ (λ low. tt)
      (λ low. let same = ap lexemes_cost (lex_plain x xs q b) in
      fits_behind n (length xs + 0) used _ (x ∷ []) _ (text_spent plain xs) (omega (arith, same, one_byte x [], plain_byte x q b low)))))
  text_spent after_backslash [] = tt
  text_spent after_backslash (x ∷ xs) =
      let n = length (x ∷ xs) + 1 in
      let used = cost_in in_escape (x ∷ xs) in
      let same = ap lexemes_cost (lex_escape x xs) in
      fits_if n used (x == 117) _ _
      (λ u. fits_more n (length xs + 2) used _ _ (text_spent after_u xs) (omega (arith, same)))
      (λ u. fits_then n used _ (short_escape x)
      (λ c is. fits_behind n (length xs + 0) used _ (c ∷ []) _ (text_spent plain xs) (omega (arith, same, one_byte c [], few_found 2 c (short_escape x) (short_few x) is))))
  text_spent after_u [] = tt
  text_spent after_u (a ∷ []) = tt
  text_spent after_u (a ∷ b ∷ []) = tt
  text_spent after_u (a ∷ b ∷ c ∷ []) = tt
  text_spent after_u (a ∷ b ∷ c ∷ d ∷ xs) =
      let n = length (a ∷ b ∷ c ∷ d ∷ xs) + 2 in
      let used = cost_in in_string (a ∷ b ∷ c ∷ d ∷ xs) in
      fits_then n used _ (code_unit a b c d) (λ u is.
      let same = ap lexemes_cost (lex_unit a b c d xs u is) in
      fits_if n used (is_high_surrogate u) _ _ (λ h. fits_more n (length xs + 6) used _ _ (text_spent (after_high u) xs) (omega (arith, same)))
      (λ h. fits_if n used (is_low_surrogate u) _ _ (λ l. tt)
      (λ l. fits_behind n (length xs + 0) used _ (encode_utf8 u) _ (text_spent plain xs) (omega (arith, same, character_six u)))))
  text_spent (after_high h) [] = tt
  text_spent (after_high h) (s ∷ []) = tt
  text_spent (after_high h) (s ∷ u ∷ []) = tt
  text_spent (after_high h) (s ∷ u ∷ a ∷ []) = tt
  text_spent (after_high h) (s ∷ u ∷ a ∷ b ∷ []) = tt
  text_spent (after_high h) (s ∷ u ∷ a ∷ b ∷ c ∷ []) = tt
  text_spent (after_high h) (s ∷ u ∷ a ∷ b ∷ c ∷ d ∷ xs) =
      let n = length (s ∷ u ∷ a ∷ b ∷ c ∷ d ∷ xs) + 6 in
      let used = cost_in in_string (s ∷ u ∷ a ∷ b ∷ c ∷ d ∷ xs) in
      fits_if n used ((s == 92) && (u == 117)) _ _
      (λ e. fits_then n used _ (code_unit a b c d) (λ l is.
      let same = ap lexemes_cost (lex_backslash s (u ∷ a ∷ b ∷ c ∷ d ∷ xs) (and_parts _ _ e).0 ∙ lex_escape u (a ∷ b ∷ c ∷ d ∷ xs) ∙ lex_unit a b c d xs l is) in
      fits_if n used (is_low_surrogate l) _ _
      (λ y. fits_behind n (length xs + 0) used _ (encode_utf8 (surrogate_pair h l)) _ (text_spent plain xs) (omega (arith, same, character_six (surrogate_pair h l)))) (λ y. tt)))
      (λ e. tt)
