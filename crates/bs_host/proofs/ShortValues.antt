-- A JSON value costs at most as much as the text that it was read from.
use Rattle.std.proofs.Common.{◌≡◌, ℕ, ◌+◌, suc, not, ◌-◌, ◌^◌, ◌<◌, ◌≤◌, Bool, true, false, cond, ◌&&◌, ◌==◌, nat_lt, List, [], ◌∷◌, ◌++◌, length, take, drop, slice_index, Option, Some, None, option_map, option_and_then, Ordering, Less, Equal, Greater, refl, sym, ap, ◌∙◌, subst, arith, length-take, append-nil}
use Rattle.std.proofs.lemmas.Bool.{and_parts, ltb-true, not-true}
use Rattle.std.proofs.lemmas.Fmt.{length-decimal-le}
use Rattle.std.proofs.lemmas.Int.Digits.{digits_value-lt}
use Rattle.std.specs.Prelude.{⊤}
use Rattle.std.specs.Ordering.{match_ordering}
use Rattle.std.specs.Char.{digit_value, is_ascii_digit}
use Rattle.std.specs.List.{prefix_len}
use Rattle.std.specs.Float.Numeral.{Parts, scan_numeral as scan, numeral_digits as digits_of, nearest_float as nearest}
use Rattle.std.specs.Float.{binary64, float_is_finite}
use Rattle.std.specs.Prelude.{pos, neg_ℤ, nat_le}
use Rattle.std.specs.Str.Parse.{digits_value, AllDigits}
use Rattle.json.specs.Token.{Token}
use Rattle.json.specs.Print.{quoted}
use Rattle.json.specs.Lex.{tokens}
use Rattle.json.specs.Json as json
use Rattle.json.specs.Tree.{json_tokens}
use Rattle.json.proofs.Unique.Spelling.{value-json_tokens_back}
use Rattle.serde_json.specs.Data.{Num, unsigned, negative, float, Data, number, array, object, item, Members, no_members, member, put}
use Rattle.serde_json.specs.Read.{number_of, number_from, float_of, is_integer, of_json, of_items, of_members, max_depth, read}
use Rattle.bs_host.proofs.TextCost.{json_cost, items_cost, members_cost, number_cost, data_cost, list_cost, object_cost}
use Rattle.bs_host.proofs.ShortTokens.{value_spent}

-- numbers

abbrev pub AtMost : {A : Type 0} → (A → ℕ) → ℕ → Option A → Type 0
AtMost f n None = ⊤
AtMost f n (Some a) = f a ≤ n

digit_small : (x : ℕ) → is_ascii_digit x ≡ true → digit_value x < 10
digit_small x is = grind arith

digits_first : (b : Bool) (x : ℕ) (n : ℕ) (xs : List ℕ) → is_ascii_digit x ≡ b → AllDigits 10 (take n xs) → AllDigits 10 (take (cond b (1 + n) 0) (x ∷ xs))
digits_first false x n xs is all = tt
digits_first true x n xs is all =
    let e : 1 + n ≡ suc n = omega arith in
    subst (λ m. AllDigits 10 (take m (x ∷ xs))) (sym e) (digit_small x is, all)

run_digits : (bs : List ℕ) → AllDigits 10 (take (prefix_len is_ascii_digit bs) bs)
run_digits [] = tt
run_digits (x ∷ xs) = digits_first (is_ascii_digit x) x (prefix_len is_ascii_digit xs) xs refl (run_digits xs)

whole_digits : (bs : List ℕ) → AllDigits 10 (scan bs).whole
unfolding scan
whole_digits bs =
    let n = prefix_len is_ascii_digit bs in
    let e : n ≡ 0 + n - 0 = omega arith in
    subst (λ m. AllDigits 10 (take m bs)) e (run_digits bs)

whole_fits : (bs : List ℕ) → length (scan bs).whole ≤ length bs
unfolding scan
whole_fits bs = let n = 0 + prefix_len is_ascii_digit bs - 0 in omega (arith, length-take n bs)

no_fraction : (bs : List ℕ) → (scan bs).point ≡ false → (scan bs).fraction ≡ []
unfolding scan
no_fraction bs is = rw is refl

float_free : (n : ℕ) (b : Bool) (x : Num) → number_cost x ≡ 0 → AtMost number_cost n (cond b (Some x) None)
float_free n true x free = omega (arith, free)
float_free n false x free = tt

integer_few : (s : List ℕ) → is_integer (scan s) ≡ true → nat_lt (digits_of (scan s)) (2 ^ 64) ≡ true → number_cost (unsigned (digits_of (scan s))) ≤ length s
integer_few s is small =
    let p = scan s in
    let parts = and_parts (nat_lt 0 (length p.whole) && not p.point) (length p.exponent == 0) is in
    let some = and_parts (nat_lt 0 (length p.whole)) (not p.point) parts.0 in
    let none = no_fraction s (not-true p.point some.1) in
    let digits : digits_of p ≡ digits_value 10 p.whole = ap (λ f. digits_value 10 (p.whole ++ f)) none ∙ ap (digits_value 10) (append-nil p.whole) in
    let below = digits_value-lt 10 p.whole (whole_digits s) in
    let n = digits_value 10 p.whole in
    let least = ltb-true 0 (length p.whole) some.0 in
    let most : n < 2 ^ 64 = subst (λ m. m < 2 ^ 64) digits (ltb-true (digits_of p) (2 ^ 64) small) in
    let short = length-decimal-le (length p.whole) n least below most in
    rw digits (omega (arith, short, least, whole_fits s))

unsigned_or : (s : List ℕ) (b c : Bool) → is_integer (scan s) ≡ b → nat_lt (digits_of (scan s)) (2 ^ 64) ≡ c
    → AtMost number_cost (length s) (cond (b && c) (Some (unsigned (digits_of (scan s)))) (float_of false (scan s)))
unsigned_or s true true is small = integer_few s is small
unsigned_or s true false is small = float_free (length s) _ (float _) refl
unsigned_or s false c is small = float_free (length s) _ (float _) refl

negative_free : (n : ℕ) (b : Bool) (x : Num) (o : Option Num) → number_cost x ≡ 0 → AtMost number_cost n o → AtMost number_cost n (cond b (Some x) o)
negative_free n true x o free rest = omega (arith, free)
negative_free n false x o free rest = rest

negative_from : (n : ℕ) (p : Parts) → AtMost number_cost n (number_from true p)
negative_from n p =
    negative_free n (is_integer p && nat_lt 0 (digits_of p) && nat_le (digits_of p) (2 ^ 63)) (negative (neg_ℤ (pos (digits_of p)))) (float_of true p) refl
    (float_free n (float_is_finite (nearest binary64 true p)) (float (nearest binary64 true p)) refl)

number_by : (b : Bool) (s : List ℕ) → AtMost number_cost (length s) (cond b (number_from true (scan (drop 1 s))) (number_from false (scan s)))
number_by true s = negative_from (length s) (scan (drop 1 s))
number_by false s = unsigned_or s (is_integer (scan s)) (nat_lt (digits_of (scan s)) (2 ^ 64)) refl refl

number_few : (s : List ℕ) → AtMost number_cost (length s) (number_of s)
unfolding number_of
number_few s = number_by (slice_index s 0 == 45) s

-- values

most_map : {A B : Type 0} (f : A → ℕ) (g : B → ℕ) (m n : ℕ) (h : A → B) → ((a : A) → f a ≤ m → g (h a) ≤ n) → (o : Option A) → AtMost f m o → AtMost g n (option_map h o)
most_map f g m n h k None x = tt
most_map f g m n h k (Some a) x = k a x

most_then : {A B : Type 0} (f : A → ℕ) (g : B → ℕ) (m n : ℕ) (h : A → Option B) → ((a : A) → f a ≤ m → AtMost g n (h a)) → (o : Option A) → AtMost f m o → AtMost g n (option_and_then h o)
most_then f g m n h k None x = tt
most_then f g m n h k (Some a) x = k a x

match_few : (o : Ordering) (a b c : Members) (n : ℕ) → object_cost a ≤ n → object_cost b ≤ n → object_cost c ≤ n → object_cost (match_ordering o a b c) ≤ n
match_few Less a b c n p q r = p
match_few Equal a b c n p q r = q
match_few Greater a b c n p q r = r

put_few : (k : List ℕ) (d : Data) (ms : Members) → object_cost (put k d ms) ≤ object_cost ms + (1 + (length (quoted k) + 1) + data_cost d)
put_few k d no_members = omega arith
put_few k d (member l e ms) =
    let more = put_few k d ms in
    match_few _ (member k d (member l e ms)) (member l d ms) (member l e (put k d ms)) _ (omega arith) (omega arith) (omega (arith, more))

at_most_more : (m n : ℕ) (o : Option Members) → AtMost object_cost m o → m ≤ n → AtMost object_cost n o
at_most_more m n None x le = tt
at_most_more m n (Some a) x le = omega (arith, x, le)

mutual
  value_few : (j : json.Json) → AtMost data_cost (json_cost j) (of_json j)
  value_few json.null = omega arith
  value_few (json.boolean b) = omega arith
  value_few (json.number s) = most_map number_cost data_cost (length s) (length s) number (λ a x. x) (number_of s) (number_few s)
  value_few (json.string s) = omega arith
  value_few (json.array js) = most_map list_cost data_cost (items_cost js) _ array (λ a x. omega (arith, x)) _ (items_few js)
  value_few (json.object ms) = most_map object_cost data_cost (members_cost ms + object_cost no_members) _ object (λ a x. omega (arith, x)) _ (members_few ms no_members)

  items_few : (js : json.Items) → AtMost list_cost (items_cost js) (of_items js)
  items_few json.no_items = omega arith
  items_few (json.item j js) =
      most_then data_cost list_cost (json_cost j) _ _
      (λ d x. most_map list_cost list_cost (items_cost js) _ (item d) (λ ds y. omega (arith, x, y)) _ (items_few js)) _ (value_few j)

  members_few : (ms : json.Members) (found : Members) → AtMost object_cost (members_cost ms + object_cost found) (of_members ms found)
  members_few json.no_members found = omega arith
  members_few (json.member name j ms) found =
      most_then data_cost object_cost (json_cost j) _ _ (λ d x. at_most_more _ _ _ (members_few ms (put name d found)) (let few = put_few name d found in omega (arith, few, x))) _ (value_few j)

data_more : (m n : ℕ) (o : Option Data) → AtMost data_cost m o → m ≤ n → AtMost data_cost n o
data_more m n None x le = tt
data_more m n (Some a) x le = omega (arith, x, le)

last_few : (text : List ℕ) (o : Option (json.Json × List Token)) → o ≡ json.value max_depth (tokens text) → AtMost data_cost (length text) (option_and_then of_json (option_and_then (λ p. json.if_last p.0 p.1) o))
last_few text None is = tt
last_few text (Some (j, [])) is =
    let back = value-json_tokens_back max_depth (tokens text) [] j (sym is) ∙ append-nil (json_tokens j) in
    data_more _ _ (of_json j) (value_few j) (value_spent text j back)
last_few text (Some (j, t ∷ r)) is = tt

pub read_few : (text : List ℕ) → AtMost data_cost (length text) (read text)
read_few text = last_few text _ refl
