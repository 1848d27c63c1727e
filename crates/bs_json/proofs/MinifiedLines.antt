-- A line without the white space between its tokens means the same.
use Rattle.std.proofs.Common.{◌≡◌, ℕ, suc, ◌+◌, ◌<◌, ◌≤◌, ◌==◌, ◌||◌, ◌&&◌, List, [], ◌∷◌, ◌++◌, Bool, true, false, not, cond, Option, Some, None, option_map, option_and_then, IfSome, IsUtf8, length, drop, get_or, nat_le, nat_lt, inl, inr, ◌⊎◌, refl, sym, ap, ap₂, ◌∙◌, subst, arith, add-one, append_assoc, drop-cons}
use Rattle.std.proofs.lemmas.Bool.{and_from, cases_Bool, cases_lt, eqb-true, le-ltb, leb-true, lt-leb, lt-ltb, ltb-true, ne_eqb}
use Rattle.std.proofs.lemmas.List.{append-nil, drop_all}
use Rattle.std.proofs.lemmas.Str.{is_utf8-from_IsUtf8}
use Rattle.std.specs.Char.{is_ascii_digit}
use Rattle.std.specs.List.{list_all, prefix_len}
use Rattle.std.specs.Str.{IsAscii}
use Rattle.json.specs.Lex.{Class, quote, backslash, operator, space, other, class, Lexeme, token, Mode, between, in_string, in_word, lex, lex_byte, operator_lexeme, punctuate, fresh, string_token, tokens}
use Rattle.json.specs.Text.{content, plain, prepend}
use Rattle.json.specs.Token.{number}
use Rattle.json.specs.Word.{after_number, ends_word, is_operator}
use Rattle.json.specs.Word as word
use Rattle.json.specs.Print.{IsNumber}
use Rattle.json.proofs.Printed.Numbers.{lex-number}
use Rattle.json.proofs.Printed.Utf8.{are_ascii, IsUtf8-are_ascii}
use Rattle.json.specs.Json as json
use Rattle.serde_json.specs.Read.{max_depth, of_json, read}
use Rattle.bs_board.specs.declared.plans.version.Version.{Version}
use Rattle.bs_board.proofs.Chains.{and_both}
use Rattle.bs_json.specs.declared.limits.TheConstants.{MAX_LINE}
use Rattle.bs_json.specs.declared.line.Line.{Line}
use Rattle.bs_json.specs.declared.minified.Place.{Place}
use Rattle.bs_json.specs.declared.minified.Place.TheVariants.{Between, Number, Ended, Text}
use Rattle.bs_json.specs.inner.Compact.{is_plain}
use Rattle.bs_json.specs.inner.Minified.{before_rest, behind_digit, behind_first_digit, behind_plain, is_blank, is_kept, minified, next_place}
use Rattle.bs_json.specs.Line.{is_space, line_of}
use Rattle.bs_json.specs.Values.{value_of}

-- ---- classes of bytes

lex_at : (m : Mode) (c : Class) (byte : ℕ) (text : List ℕ) → class byte ≡ c → lex m (byte ∷ text) ≡ lex_byte m c byte text (λ next. lex next text)
unfolding lex
lex_at m c byte text is = ap (λ d. lex_byte m d byte text (λ next. lex next text)) is

quote_is : (q b o s : Bool) → cond q quote (cond b backslash (cond o operator (cond s space other))) ≡ quote → q ≡ true
quote_is true b o s is = refl
quote_is false true o s is = cc
quote_is false false true s is = cc
quote_is false false false true is = cc
quote_is false false false false is = cc

-- whether a number may end before a byte of that class
abbrev is_end : Class → Bool
is_end quote = false
is_end backslash = false
is_end operator = true
is_end space = true
is_end other = false

ends_if : (q b o s : Bool) → is_end (cond q quote (cond b backslash (cond o operator (cond s space other)))) ≡ true → (o || s) ≡ true
ends_if true b o s is = absurd (let wrong : false ≡ true = is in cc)
ends_if false true o s is = absurd (let wrong : false ≡ true = is in cc)
ends_if false false true s is = refl
ends_if false false false true is = refl
ends_if false false false false is = absurd (let wrong : false ≡ true = is in cc)

-- a word ends before an operator and before white space
ends_before : (c : Class) (byte : ℕ) (text : List ℕ) → class byte ≡ c → is_end c ≡ true → ends_word (byte ∷ text) ≡ true
ends_before c byte text is ends = ends_if (byte == 34) (byte == 92) (is_operator byte) (word.is_space byte) (ap is_end is ∙ ends)

-- ---- numbers

prefix_all : (digits : List ℕ) → list_all is_ascii_digit digits ≡ true → prefix_len is_ascii_digit digits ≡ length digits
prefix_all [] all = refl
prefix_all (digit ∷ digits) all =
    let parts = and_both (is_ascii_digit digit) (list_all is_ascii_digit digits) all in
    rw (parts.0, prefix_all digits parts.1) (omega arith)

digit_is_no_minus : (digit : ℕ) → is_ascii_digit digit ≡ true → (digit == 45) ≡ false
digit_is_no_minus digit is = ne_eqb digit 45 (λ same. let wrong : false ≡ true = ap is_ascii_digit (sym same) ∙ is in cc)

-- digits without a zero in front
is_number : (first : ℕ) (digits : List ℕ) → is_ascii_digit first ≡ true → (first == 48) ≡ false → list_all is_ascii_digit digits ≡ true → IsNumber (first ∷ digits)
unfolding after_number
is_number first digits digit whole all =
    let many : prefix_len is_ascii_digit (first ∷ digits) ≡ length (first ∷ digits) = prefix_all (first ∷ digits) (and_from (is_ascii_digit first) (list_all is_ascii_digit digits) digit all) in
    let some : (length (first ∷ digits) == 0) ≡ false = ne_eqb (length (first ∷ digits)) 0 (λ none. omega arith) in
    let none : drop (length (first ∷ digits)) (first ∷ digits) ≡ [] = drop_all (length (first ∷ digits)) (first ∷ digits) (omega arith) in
    rw (digit_is_no_minus first digit, whole, many, some, none) refl

zero_is_number : IsNumber (48 ∷ [])
unfolding after_number
zero_is_number = refl

-- ---- a place before and after

-- what is behind a number, before its end
record Ends (text short : List ℕ) : Type 0 where
  before : ends_word text ≡ true
  after : ends_word short ≡ true
  same : lex between text ≡ lex between short

-- the rest of a number, and what is behind it
record GoesOn (text short : List ℕ) : Type 0 where
  digits : List ℕ
  left : List ℕ
  kept : List ℕ
  all : list_all is_ascii_digit digits ≡ true
  text_is : text ≡ digits ++ left
  short_is : short ≡ digits ++ kept
  ends : Ends left kept

-- the tokens from that place on are the same
abbrev Same : Place → List ℕ → List ℕ → Type 0
Same Between text short = lex between text ≡ lex between short
Same Number text short = GoesOn text short
Same Ended text short = Ends text short
Same Text text short = (lex in_string text ≡ lex in_string short) × (content plain text ≡ content plain short)

abbrev SameAt : Option Place → List ℕ → List ℕ → Type 0
SameAt None text short = ⊥
SameAt (Some place) text short = Same place text short

nothing_left : (place : Place) → Same place [] []
nothing_left Between = refl
nothing_left Number = record { digits = []; left = []; kept = []; all = refl; text_is = refl; short_is = refl; ends = record { before = refl; after = refl; same = refl } }
nothing_left Ended = record { before = refl; after = refl; same = refl }
nothing_left Text = (refl, refl)

number_begins : (byte : ℕ) (text short : List ℕ) (zero digit : Bool) → (byte == 48) ≡ zero → is_ascii_digit byte ≡ digit
    → SameAt (cond zero (Some Ended) (cond digit (Some Number) None)) text short → lex between (byte ∷ text) ≡ lex between (byte ∷ short)
number_begins byte text short true digit is d rest =
    let number_is : IsNumber (byte ∷ []) = subst (λ b. IsNumber (b ∷ [])) (sym (eqb-true byte 48 is)) zero_is_number in
    lex-number (byte ∷ []) text number_is rest.before ∙ ap (λ ls. token (number (byte ∷ [])) ∷ ls) rest.same ∙ sym (lex-number (byte ∷ []) short number_is rest.after)
number_begins byte text short false true is d rest =
    let number_is = is_number byte rest.digits d is rest.all in
    let ends = rest.ends in
    ap (λ t. lex between (byte ∷ t)) rest.text_is
    ∙ lex-number (byte ∷ rest.digits) rest.left number_is ends.before ∙ ap (λ ls. token (number (byte ∷ rest.digits)) ∷ ls) ends.same
    ∙ sym (lex-number (byte ∷ rest.digits) rest.kept number_is ends.after) ∙ ap (λ t. lex between (byte ∷ t)) (sym rest.short_is)
number_begins byte text short false false is d rest = absurd rest

ends_here : (c : Class) (byte : ℕ) (text short : List ℕ) → class byte ≡ c → is_end c ≡ true → lex between (byte ∷ text) ≡ lex between (byte ∷ short)
    → Ends (byte ∷ text) (byte ∷ short)
ends_here c byte text short is ends same = record { before = ends_before c byte text is ends; after = ends_before c byte short is ends; same = same }

goes_no_further : (text short : List ℕ) → Ends text short → GoesOn text short
goes_no_further text short ends = record { digits = []; left = text; kept = short; all = refl; text_is = refl; short_is = refl; ends = ends }

ends_later : (byte : ℕ) (text short : List ℕ) → class byte ≡ space → Ends text short → Ends (byte ∷ text) short
ends_later byte text short is ends = record { before = ends_before space byte text is refl; after = ends.after; same = lex_at between space byte text is ∙ ends.same }

one_digit : (byte : ℕ) (text short : List ℕ) (digit : Bool) → is_ascii_digit byte ≡ digit → SameAt (cond digit (Some Number) None) text short
    → GoesOn (byte ∷ text) (byte ∷ short)
one_digit byte text short true is rest = record {
  digits = byte ∷ rest.digits;
  left = rest.left;
  kept = rest.kept;
  all = and_from (is_ascii_digit byte) (list_all is_ascii_digit rest.digits) is rest.all;
  text_is = ap (λ t. byte ∷ t) rest.text_is;
  short_is = ap (λ t. byte ∷ t) rest.short_is;
  ends = rest.ends;
}
one_digit byte text short false is rest = absurd rest

is_not : (b : Bool) → not b ≡ true → b ≡ false
is_not true none = absurd (let wrong : false ≡ true = none in cc)
is_not false none = refl

plain_content : (byte : ℕ) (text : List ℕ) → is_plain byte ≡ true → content plain (byte ∷ text) ≡ prepend (byte ∷ []) (content plain text)
unfolding content
plain_content byte text is =
    let outer = and_both _ (not (byte == 92)) is in
    let inner = and_both _ (not (byte == 34)) outer.0 in
    let ends = and_both (nat_le 32 byte) (nat_lt byte 127) inner.0 in
    rw (is_not (byte == 34) inner.1, is_not (byte == 92) outer.1, le-ltb byte 32 (leb-true 32 byte ends.0)) refl

abbrev passes : Class → Bool
passes quote = false
passes backslash = false
passes operator = true
passes space = true
passes other = true

lex_passes : (c : Class) (byte : ℕ) (text : List ℕ) → class byte ≡ c → passes c ≡ true → lex in_string (byte ∷ text) ≡ lex in_string text
lex_passes quote byte text is pass = absurd (let wrong : false ≡ true = pass in cc)
lex_passes backslash byte text is pass = absurd (let wrong : false ≡ true = pass in cc)
lex_passes operator byte text is pass = lex_at in_string operator byte text is
lex_passes space byte text is pass = lex_at in_string space byte text is
lex_passes other byte text is pass = lex_at in_string other byte text is

one_plain : (c : Class) (byte : ℕ) (text short : List ℕ) (b : Bool) → class byte ≡ c → passes c ≡ true → is_plain byte ≡ b → SameAt (cond b (Some Text) None) text short
    → (lex in_string (byte ∷ text) ≡ lex in_string (byte ∷ short)) × (content plain (byte ∷ text) ≡ content plain (byte ∷ short))
one_plain c byte text short true is pass fine rest = (
  lex_passes c byte text is pass ∙ rest.0 ∙ sym (lex_passes c byte short is pass),
  plain_content byte text fine ∙ ap (prepend (byte ∷ [])) rest.1 ∙ sym (plain_content byte short fine),
)
one_plain c byte text short false is pass fine rest = absurd rest

quote_content : (byte : ℕ) (text : List ℕ) → class byte ≡ quote → content plain (byte ∷ text) ≡ Some []
unfolding content
quote_content byte text is = rw (quote_is (byte == 34) (byte == 92) (is_operator byte) (word.is_space byte) is) refl

-- one byte more before the rest
one_byte : (place : Place) (c : Class) (byte : ℕ) (text short : List ℕ) → class byte ≡ c → SameAt (next_place place c byte) text short
    → Same place (byte ∷ text) (before_rest (is_kept place c) byte short)
one_byte Between quote byte text short is rest =
    lex_at between quote byte text is ∙ ap₂ (λ s ls. token (string_token s) ∷ ls) rest.1 rest.0 ∙ sym (lex_at between quote byte short is)
one_byte Between backslash byte text short is rest = absurd rest
one_byte Between operator byte text short is rest =
    lex_at between operator byte text is ∙ ap (λ ls. operator_lexeme byte ∷ ls) rest ∙ sym (lex_at between operator byte short is)
one_byte Between space byte text short is rest = lex_at between space byte text is ∙ rest
one_byte Between other byte text short is rest = number_begins byte text short (byte == 48) (is_ascii_digit byte) refl refl rest
one_byte Number quote byte text short is rest = absurd rest
one_byte Number backslash byte text short is rest = absurd rest
one_byte Number operator byte text short is rest =
    goes_no_further (byte ∷ text) (byte ∷ short) (ends_here operator byte text short is refl
    (lex_at between operator byte text is ∙ ap (λ ls. operator_lexeme byte ∷ ls) rest ∙ sym (lex_at between operator byte short is)))
one_byte Number space byte text short is rest = goes_no_further (byte ∷ text) short (ends_later byte text short is rest)
one_byte Number other byte text short is rest = one_digit byte text short (is_ascii_digit byte) refl rest
one_byte Ended quote byte text short is rest = absurd rest
one_byte Ended backslash byte text short is rest = absurd rest
one_byte Ended operator byte text short is rest =
    ends_here operator byte text short is refl
    (lex_at between operator byte text is ∙ ap (λ ls. operator_lexeme byte ∷ ls) rest ∙ sym (lex_at between operator byte short is))
one_byte Ended space byte text short is rest = ends_later byte text short is rest
one_byte Ended other byte text short is rest = absurd rest
one_byte Text quote byte text short is rest =
    (lex_at in_string quote byte text is ∙ rest ∙ sym (lex_at in_string quote byte short is), quote_content byte text is ∙ sym (quote_content byte short is))
one_byte Text backslash byte text short is rest = absurd rest
one_byte Text operator byte text short is rest = one_plain operator byte text short (is_plain byte) is refl refl rest
one_byte Text space byte text short is rest = one_plain space byte text short (is_plain byte) is refl refl rest
one_byte Text other byte text short is rest = one_plain other byte text short (is_plain byte) is refl refl rest

-- ---- the loop

kept_before : (kept : Bool) (byte : ℕ) (short rest : List ℕ) → short ++ before_rest kept byte rest ≡ (short ++ before_rest kept byte []) ++ rest
kept_before true byte short rest = sym (append_assoc short (byte ∷ []) rest)
kept_before false byte short rest = ap (λ t. t ++ rest) (sym (append-nil short))

kept_more : (kept : Bool) (byte : ℕ) (short more : List ℕ) (rest : Option (List ℕ)) → more ≡ short ++ before_rest kept byte []
    → option_map (λ r. more ++ r) rest ≡ option_map (λ r. short ++ r) (option_map (before_rest kept byte) rest)
kept_more kept byte short more None is = refl
kept_more kept byte short more (Some rest) is = ap Some (ap (λ t. t ++ rest) is ∙ sym (kept_before kept byte short rest))

byte_here : (line : List ℕ) (at byte : ℕ) → at < length line → byte ≡ get_or line at 0 → drop at line ≡ byte ∷ drop (at + 1) line
byte_here line at byte within is =
    let first : drop at line ≡ get_or line at 0 ∷ drop (at + 1) line = rw (add-one, drop-cons line at 0) refl in
    first ∙ ap (λ b. b ∷ drop (at + 1) line) (sym is)

minified_by : (place : Place) (byte : ℕ) (text : List ℕ) (found : Option Place) → found ≡ next_place place (class byte) byte
    → minified place (byte ∷ text) ≡ option_and_then (λ next. option_map (before_rest (is_kept place (class byte)) byte) (minified next text)) found
minified_by place byte text found is = ap (option_and_then (λ next. option_map (before_rest (is_kept place (class byte)) byte) (minified next text))) (sym is)

pub byte_more : (line short more : List ℕ) (place next : Place) (at byte : ℕ) → option_map (λ rest. short ++ rest) (minified place (drop at line)) ≡ minified Between line
    → at < length line → byte ≡ get_or line at 0 → Some next ≡ next_place place (class byte) byte → more ≡ short ++ before_rest (is_kept place (class byte)) byte []
    → option_map (λ rest. more ++ rest) (minified next (drop (at + 1) line)) ≡ minified Between line
byte_more line short more place next at byte before within is goes all =
    kept_more (is_kept place (class byte)) byte short more (minified next (drop (at + 1) line)) all
    ∙ ap (option_map (λ rest. short ++ rest)) (sym (minified_by place byte (drop (at + 1) line) (Some next) goes) ∙ ap (minified place) (sym (byte_here line at byte within is)))
    ∙ before

-- ---- a whole text

-- the first byte, and the text behind it
record Begins (place : Place) (byte : ℕ) (text short : List ℕ) : Type 0 where
  next : Place
  kept : List ℕ
  goes : next_place place (class byte) byte ≡ Some next
  left : minified next text ≡ Some kept
  is : before_rest (is_kept place (class byte)) byte kept ≡ short

some_is : (a b : List ℕ) → Some a ≡ Some b → a ≡ b
some_is a b same = cc

by_rest : (place later : Place) (byte : ℕ) (text short : List ℕ) (rest : Option (List ℕ)) → next_place place (class byte) byte ≡ Some later → minified later text ≡ rest
    → option_map (before_rest (is_kept place (class byte)) byte) rest ≡ Some short → Begins place byte text short
by_rest place later byte text short None goes left is = absurd (cc)
by_rest place later byte text short (Some kept) goes left is = record { next = later; kept = kept; goes = goes; left = left; is = some_is _ _ is }

by_place : (place : Place) (byte : ℕ) (text short : List ℕ) (found : Option Place) → next_place place (class byte) byte ≡ found
    → option_and_then (λ next. option_map (before_rest (is_kept place (class byte)) byte) (minified next text)) found ≡ Some short → Begins place byte text short
by_place place byte text short None goes is = absurd (cc)
by_place place byte text short (Some next) goes is = by_rest place next byte text short (minified next text) goes refl is

begins : (place : Place) (byte : ℕ) (text short : List ℕ) → minified place (byte ∷ text) ≡ Some short → Begins place byte text short
begins place byte text short is = by_place place byte text short (next_place place (class byte) byte) refl is

same_tokens : (place : Place) (text short : List ℕ) → minified place text ≡ Some short → Same place text short
same_tokens place [] short is = subst (Same place []) (some_is [] short is) (nothing_left place)
same_tokens place (byte ∷ text) short is =
    let b = begins place byte text short is in
    let rest : SameAt (next_place place (class byte) byte) text b.kept = subst (λ o. SameAt o text b.kept) (sym b.goes) (same_tokens b.next text b.kept b.left) in
    subst (Same place (byte ∷ text)) b.is (one_byte place (class byte) byte text b.kept refl rest)

kept_ascii : (b : Bool) (byte : ℕ) (rest : List ℕ) → nat_lt byte 128 ≡ true → are_ascii rest ≡ true → are_ascii (before_rest b byte rest) ≡ true
kept_ascii true byte rest one all = and_from (nat_lt byte 128) (are_ascii rest) one all
kept_ascii false byte rest one all = all

-- nothing is added to it
short_ascii : (place : Place) (text short : List ℕ) → minified place text ≡ Some short → are_ascii text ≡ true → are_ascii short ≡ true
short_ascii place [] short is ascii = subst (λ t. are_ascii t ≡ true) (some_is [] short is) refl
short_ascii place (byte ∷ text) short is ascii =
    let b = begins place byte text short is in
    let parts = and_both (nat_lt byte 128) (are_ascii text) ascii in
    subst (λ t. are_ascii t ≡ true) b.is (kept_ascii (is_kept place (class byte)) byte b.kept parts.0 (short_ascii b.next text b.kept b.left parts.1))

ascii_from : (text : List ℕ) → IsAscii text → are_ascii text ≡ true
ascii_from [] ascii = refl
ascii_from (byte ∷ text) ascii = and_from (nat_lt byte 128) (are_ascii text) (lt-ltb byte 128 (ascii 0)) (ascii_from text (λ at. ascii (suc at)))

ascii_value : (text : List ℕ) → are_ascii text ≡ true → value_of text ≡ read text
unfolding value_of
ascii_value text ascii = rw (is_utf8-from_IsUtf8 text (IsUtf8-are_ascii text ascii)) refl

-- a line that is not blank is read as it is without the white space between its tokens
line_of_minified : (version : Version) (text short : List ℕ) → minified Between text ≡ Some short → IsAscii text → length text ≤ MAX_LINE → length short ≤ length text
    → list_all is_space text ≡ false → list_all is_space short ≡ false → line_of version short ≡ line_of version text
unfolding line_of
line_of_minified version text short is ascii fits shorter some some_left =
    let all = ascii_from text ascii in
    let tokens_are : tokens text ≡ tokens short = ap (punctuate fresh) (same_tokens Between text short is) in
    let value : value_of short ≡ value_of text =
    ascii_value short (short_ascii Between text short is all) ∙ ap (λ ts. option_and_then of_json (option_and_then (λ p. json.if_last p.0 p.1) (json.value max_depth ts))) (sym tokens_are)
    ∙ sym (ascii_value text all) in
    let long : length short ≤ MAX_LINE = omega arith in
    rw (le-ltb MAX_LINE (length text) fits, le-ltb MAX_LINE (length short) long, some, some_left, value) refl

pub same_line : (version : Version) (text short : List ℕ) (l : Line) → l ≡ line_of version short → Some short ≡ minified Between text → IsAscii text → length text ≤ MAX_LINE
    → length short ≤ length text → list_all is_space text ≡ false → list_all is_space short ≡ false → l ≡ line_of version text
same_line version text short l is found ascii fits shorter some some_left = is ∙ line_of_minified version text short (sym found) ascii fits shorter some some_left

pub found_in : (version : Version) (short : List ℕ) (found : Option Line) (l : Line) → IfSome found (λ m. m ≡ line_of version short) → found ≡ Some l → l ≡ line_of version short
found_in version short found l all is = subst (λ o. IfSome o (λ m. m ≡ line_of version short)) is all
