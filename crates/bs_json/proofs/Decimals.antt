-- Numbers in their shortest decimal form.
use Rattle.std.proofs.Common.{◌≡◌, ℕ, ◌+◌, ◌*◌, ◌-◌, ◌<◌, ◌^◌, List, ◌∷◌, ◌++◌, true, nat_le, take, drop, length, get_or, decimal, sym, ap, ap₂, ◌∙◌, subst, arith, take-append-drop}
use Rattle.std.proofs.lemmas.Bool.{leb-true}
use Rattle.std.proofs.lemmas.Fmt.{decimal-digits_value, decimal_digit}
use Rattle.std.proofs.lemmas.Int.Digits.{digits_more, digits_value_more}
use Rattle.std.proofs.lemmas.List.{get_or-take, length-take-le}
use Rattle.std.proofs.lemmas.Str.{digit_value_digit}
use Rattle.std.proofs.lemmas.Str.Parse.{IsNumeralModel, numerals_by_value, tells_digits}
use Rattle.std.specs.Char.{digit_value, is_ascii_digit}
use Rattle.std.specs.Int.{IsInRange}
use Rattle.std.specs.Str.Parse.{AllDigits, digits_value}
use Rattle.bs_board.proofs.Chains.{and_both}

in_range : (byte : ℕ) → is_ascii_digit byte ≡ true → IsInRange 48 57 byte
in_range byte is = let ends = and_both (nat_le 48 byte) (nat_le byte 57) is in (leb-true 48 byte ends.0, leb-true byte 57 ends.1)

digit_is : (byte : ℕ) → is_ascii_digit byte ≡ true → digit_value byte + 48 ≡ byte
digit_is byte is = digit_value_digit byte (in_range byte is)

-- one digit more: its value, and that all are digits
pub one_digit_more : (line : List ℕ) (index before after byte : ℕ) → index < length line → byte ≡ get_or line index 0 → is_ascii_digit byte ≡ true
    → after ≡ before * 10 + (byte - 48) → before ≡ digits_value 10 (take index line) → after ≡ digits_value 10 (take (index + 1) line)
one_digit_more line index before after byte within at is sum so_far =
    let value = digit_is byte is in
    let digit : byte - 48 ≡ digit_value (get_or line index 0) = (let d : byte - 48 ≡ digit_value byte = omega (arith, value) in d ∙ ap digit_value at) in
    sum ∙ ap (λ n. n * 10 + (byte - 48)) so_far ∙ ap (λ n. digits_value 10 (take index line) * 10 + n) digit ∙ sym (digits_value_more 10 line index within)

pub digits_and_one : (line : List ℕ) (index byte : ℕ) → index < length line → byte ≡ get_or line index 0 → is_ascii_digit byte ≡ true
    → AllDigits 10 (take index line) → AllDigits 10 (take (index + 1) line)
digits_and_one line index byte within at is so_far =
    let value = digit_is byte is in
    let ends = in_range byte is in
    let small : digit_value byte < 10 = omega (arith, value, ends.1) in
    digits_more 10 line index within so_far (subst (λ b. digit_value b < 10) at small)

-- the digits so far are the number's text, if the first is no zero
pub digits_are : (line rest : List ℕ) (index number : ℕ) → rest ≡ drop index line → index < length line → 0 < index → (get_or line 0 0 ≡ 48 → ⊥) → number < 2 ^ 32
    → number ≡ digits_value 10 (take index line) → AllDigits 10 (take index line) → line ≡ decimal number ++ rest
digits_are line rest index number behind within some front small is digits =
    let own : IsNumeralModel (AllDigits 10) (digits_value 10) = numerals_by_value (AllDigits 10) tells_digits in
    let text = take index line in
    let long : length text ≡ index = length-take-le index line (omega (arith, within)) in
    let first : get_or text 0 0 ≡ get_or line 0 0 = get_or-take index line 0 0 some in
    let less : digits_value 10 text < 2 ^ 64 = omega (arith, small, is) in
    let written : decimal (digits_value 10 text) ≡ text =
    decimal-digits_value own text digits (omega (arith, long, some)) (λ zero. absurd (front (sym first ∙ zero))) less in
    sym (take-append-drop index line) ∙ ap₂ (λ (t r : List ℕ). t ++ r) (sym written ∙ ap decimal (sym is)) (sym behind)

pub zero_first : (line rest : List ℕ) → line ≡ 48 ∷ rest → line ≡ decimal 0 ++ rest
zero_first line rest is = is ∙ ap (λ t. t ++ rest) (sym (decimal_digit 0 (omega arith)))
