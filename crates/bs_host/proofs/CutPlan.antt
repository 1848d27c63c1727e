-- The plan of one game alone is written as one short line, and parsed as that plan again.
use Rattle.std.proofs.Common.{◌≡◌, ℕ, zero, suc, ◌*◌, ◌^◌, ◌<◌, ◌≤◌, Bool, true, false, ◌&&◌, nat_le, nat_lt, List, [], ◌∷◌, ◌++◌, Some, Ok, option_and_then, codes, decimal, length, get_or, inl, inr, refl, sym, ap, ◌∙◌, arith, append_assoc, append-nil, length-append}
use Rattle.std.proofs.Math.Dec.{eqb}
use Rattle.std.proofs.lemmas.Bool.{and_parts, and_from, cases_lt, cases_eq, ne_eqb, leb-true, le-ltb, cond-false}
use Rattle.std.proofs.lemmas.Fmt.{decimal_digit, decimal_is_IsNumeral, IsAscii-decimal, length-decimal-le}
use Rattle.std.proofs.lemmas.List.Folds.{list_all-append}
use Rattle.std.proofs.lemmas.Str.{IsUtf8-append, IsUtf8-from_ascii, IsUtf8-from_is_utf8, is_utf8-from_IsUtf8}
use Rattle.std.proofs.lemmas.Str.Parse.{digit_at}
use Rattle.std.specs.List.{list_all}
use Rattle.std.specs.Prelude.{not}
use Rattle.std.specs.Str.{is_utf8}
use Rattle.json.specs.Json as json
use Rattle.json.specs.Lex.{tokens}
use Rattle.json.specs.Print.{quoted, escape, escape_byte, ArePrintable}
use Rattle.json.specs.Tree as tree
use Rattle.json.proofs.Printed.Decimals.{IsNumber-decimal}
use Rattle.json.proofs.Printed.Strings.{escape_byte_plain}
use Rattle.json.proofs.Printed.Tokens.{tokens-print}
use Rattle.json.proofs.Printed.Trees.{value-json_tokens}
use Rattle.json.proofs.Printed.Utf8.{are_ascii, IsUtf8-are_ascii, IsUtf8-quoted}
use Rattle.serde_json.specs.Data.{Data}
use Rattle.serde_json.specs.Read.{read, of_json}
use Rattle.serde_json.specs.Written.{has_float, outline, compact_text}
use Rattle.serde_json.proofs.Numbers.{number_of-decimal}
use Rattle.serde_json.proofs.Texts.{print-outline}
use Rattle.bs_board.specs.declared.limits.TheConstants.{LEAST_QUOTA, LONGEST_ID, MOST_QUOTA}
use Rattle.bs_board.specs.declared.plans.version.Version.{Version}
use Rattle.bs_board.specs.declared.plans.version.Version.TheVariants.{One, Two, Three, Five}
use Rattle.bs_board.specs.plans.Plan.{GameRow, is_fit_row}
use Rattle.bs_board.specs.Texts.{is_short_text}
use Rattle.bs_json.specs.declared.limits.TheConstants.{MAX_LINE}
use Rattle.bs_json.specs.PlanLine.{plan_from, plan_line_of}
use Rattle.bs_json.specs.Values.{value_of}
use Rattle.bs_host.specs.declared.lines.TheConstants.{LINE_FEED}
use Rattle.bs_host.specs.Cut.{lone_plan_data, lone_plan_of}

pub lone_plan_has_no_float : (version : Version) (row : GameRow) → has_float (lone_plan_data version row) ≡ false
unfolding lone_plan_data
lone_plan_has_no_float One row = refl
lone_plan_has_no_float Two row = refl
lone_plan_has_no_float Three row = refl
lone_plan_has_no_float Five row = refl

-- a row within its limits

pub record IsFit (row : GameRow) : Type 0 where
  pub text : is_utf8 row.game ≡ true
  pub short : length row.game ≤ 64
  pub most : nat_le row.quota MOST_QUOTA ≡ true
  pub small : row.quota < 10 ^ 8

pub fit_parts : (row : GameRow) → is_fit_row row ≡ true → IsFit row
fit_parts row fit =
    let outer = and_parts (is_short_text row.game && nat_le LEAST_QUOTA row.quota) (nat_le row.quota MOST_QUOTA) fit in
    let inner = and_parts (is_short_text row.game) (nat_le LEAST_QUOTA row.quota) outer.0 in
    let name = and_parts (is_utf8 row.game && nat_le 1 (length row.game)) (nat_le (length row.game) LONGEST_ID) inner.0 in
    let text = and_parts (is_utf8 row.game) (nat_le 1 (length row.game)) name.0 in
    let most = leb-true row.quota MOST_QUOTA outer.1 in
    record { text = text.0; short = leb-true (length row.game) LONGEST_ID name.1; most = outer.1; small = omega (arith, most) }

-- a text is parsed as its data again if its numbers are

reads_back : (d : Data) → ArePrintable (tree.json_tokens (outline d)) → of_json (outline d) ≡ Some d → tree.depth (outline d) ≤ 127 → read (compact_text d) ≡ Some d
reads_back d printable back shallow =
    let ts = tree.json_tokens (outline d) in
    let same : tokens (compact_text d) ≡ ts ++ [] = ap tokens (sym (print-outline d)) ∙ tokens-print ts printable ∙ sym (append-nil ts) in
    ap (λ all. option_and_then of_json (option_and_then (λ p. json.if_last p.0 p.1) (json.value 127 all))) same
    ∙ ap (λ found. option_and_then of_json (option_and_then (λ p. json.if_last p.0 p.1) found)) (value-json_tokens (outline d) 127 [] shallow)
    ∙ back

lone_plan_is_printable : (version : Version) (row : GameRow) → row.quota < 2 ^ 64 → ArePrintable (tree.json_tokens (outline (lone_plan_data version row)))
unfolding lone_plan_data ArePrintable
lone_plan_is_printable One row small = (tt, (tt, (tt, (tt, (tt, (tt, (tt, (IsNumber-decimal row.quota small, (tt, (tt, (tt, tt)))))))))))
lone_plan_is_printable Two row small =
    (tt, (tt, (tt, (tt, (tt, (tt, (tt, (IsNumber-decimal row.quota small, (tt, (tt, (tt, (IsNumber-decimal 2 (omega arith), (tt, tt)))))))))))))
lone_plan_is_printable Three row small =
    (tt, (tt, (tt, (tt, (tt, (tt, (tt, (IsNumber-decimal row.quota small, (tt, (tt, (tt, (IsNumber-decimal 3 (omega arith), (tt, tt)))))))))))))
lone_plan_is_printable Five row small =
    (tt, (tt, (tt, (tt, (tt, (tt, (tt, (IsNumber-decimal row.quota small, (tt, (tt, (tt, (IsNumber-decimal 5 (omega arith), (tt, tt)))))))))))))

lone_plan_back : (version : Version) (row : GameRow) → row.quota < 2 ^ 64 → of_json (outline (lone_plan_data version row)) ≡ Some (lone_plan_data version row)
unfolding lone_plan_data
lone_plan_back One row small = rw (number_of-decimal row.quota small) refl
lone_plan_back Two row small = rw (number_of-decimal row.quota small, number_of-decimal 2 (omega arith)) refl
lone_plan_back Three row small = rw (number_of-decimal row.quota small, number_of-decimal 3 (omega arith)) refl
lone_plan_back Five row small = rw (number_of-decimal row.quota small, number_of-decimal 5 (omega arith)) refl

lone_plan_depth : (version : Version) (row : GameRow) → tree.depth (outline (lone_plan_data version row)) ≤ 127
unfolding lone_plan_data
lone_plan_depth One row = omega arith
lone_plan_depth Two row = omega arith
lone_plan_depth Three row = omega arith
lone_plan_depth Five row = omega arith

lone_plan_reads : (version : Version) (row : GameRow) → row.quota < 2 ^ 64 → read (lone_plan_of version row) ≡ Some (lone_plan_data version row)
lone_plan_reads version row small =
    reads_back (lone_plan_data version row) (lone_plan_is_printable version row small) (lone_plan_back version row small) (lone_plan_depth version row)

-- its bytes

abbrev pub is_no_feed : ℕ → Bool
is_no_feed byte = not (eqb byte LINE_FEED)

-- the text after the quota
abbrev pub plan_end : Version → List ℕ
plan_end One = codes "}]}"
plan_end Two = codes "}],\"version\":2}"
plan_end Three = codes "}],\"version\":3}"
plan_end Five = codes "}],\"version\":5}"

regroup : (name middle number end : List ℕ) → ((name ++ (middle ++ (number ++ 125 ∷ []))) ++ 93 ∷ []) ++ end ≡ name ++ (middle ++ (number ++ 125 ∷ 93 ∷ end))
regroup name middle number end = simp append_assoc

pub lone_plan_text : (version : Version) (row : GameRow)
    → lone_plan_of version row ≡ codes "{\"games\":[{\"game\":" ++ (quoted row.game ++ (codes ",\"quota\":" ++ (decimal row.quota ++ plan_end version)))
unfolding lone_plan_data escape_byte
lone_plan_text One row = ap (λ rest. codes "{\"games\":[{\"game\":" ++ rest) (regroup (quoted row.game) (codes ",\"quota\":") (decimal row.quota) (codes "}"))
lone_plan_text Two row =
    rw (decimal_digit 2 (omega arith))
    (ap (λ rest. codes "{\"games\":[{\"game\":" ++ rest) (regroup (quoted row.game) (codes ",\"quota\":") (decimal row.quota) (codes ",\"version\":2}")))
lone_plan_text Three row =
    rw (decimal_digit 3 (omega arith))
    (ap (λ rest. codes "{\"games\":[{\"game\":" ++ rest) (regroup (quoted row.game) (codes ",\"quota\":") (decimal row.quota) (codes ",\"version\":3}")))
lone_plan_text Five row =
    rw (decimal_digit 5 (omega arith))
    (ap (λ rest. codes "{\"games\":[{\"game\":" ++ rest) (regroup (quoted row.game) (codes ",\"quota\":") (decimal row.quota) (codes ",\"version\":5}")))

end_is_ascii : (version : Version) → are_ascii (plan_end version) ≡ true
end_is_ascii One = refl
end_is_ascii Two = refl
end_is_ascii Three = refl
end_is_ascii Five = refl

end_has_no_feed : (version : Version) → list_all is_no_feed (plan_end version) ≡ true
end_has_no_feed One = refl
end_has_no_feed Two = refl
end_has_no_feed Three = refl
end_has_no_feed Five = refl

end_is_short : (version : Version) → length (plan_end version) ≤ 15
end_is_short One = omega arith
end_is_short Two = omega arith
end_is_short Three = omega arith
end_is_short Five = omega arith

lone_plan_is_text : (version : Version) (row : GameRow) → IsFit row → is_utf8 (lone_plan_of version row) ≡ true
lone_plan_is_text version row fit =
    let small : row.quota < 2 ^ 64 = omega (arith, fit.small) in
    let last = IsUtf8-are_ascii (plan_end version) (end_is_ascii version) in
    let end = IsUtf8-append (decimal row.quota) (plan_end version) (IsUtf8-from_ascii (decimal row.quota) (IsAscii-decimal row.quota small)) last in
    let middle = IsUtf8-append (codes ",\"quota\":") _ (IsUtf8-are_ascii (codes ",\"quota\":") refl) end in
    let name = IsUtf8-append (quoted row.game) _ (IsUtf8-quoted row.game (IsUtf8-from_is_utf8 row.game fit.text)) middle in
    let all = IsUtf8-append (codes "{\"games\":[{\"game\":") _ (IsUtf8-are_ascii (codes "{\"games\":[{\"game\":") refl) name in
    ap is_utf8 (lone_plan_text version row) ∙ is_utf8-from_IsUtf8 _ all

-- each byte of a name is written as up to six bytes, none of which is a line feed

abbrev is_short_piece : ℕ → Bool
is_short_piece byte = nat_le (length (escape_byte byte)) 6 && list_all is_no_feed (escape_byte byte)

abbrev are_short_below : ℕ → Bool
are_short_below zero = true
are_short_below (suc n) = is_short_piece n && are_short_below n

short_below : (n : ℕ) → are_short_below n ≡ true → (byte : ℕ) → byte < n → is_short_piece byte ≡ true
short_below zero all byte below = absurd (omega arith)
short_below (suc n) all byte below =
    let parts = and_parts _ _ all in
    elim (cases_eq byte n) [ inl same ↦ rw same parts.0 | inr other ↦ short_below n parts.1 byte (omega arith) ]

short_ascii : are_short_below 128 ≡ true
unfolding escape_byte
short_ascii = refl

short_piece : (byte : ℕ) → is_short_piece byte ≡ true
short_piece byte = elim (cases_lt byte 128) [
  | inl small ↦ short_below 128 short_ascii byte small
  | inr big ↦
      let plain = escape_byte_plain byte (λ e. omega arith) (λ e. omega arith) (omega arith) in
      let apart : eqb byte LINE_FEED ≡ false = ne_eqb byte LINE_FEED (λ e. omega arith) in
      rw (plain, apart) refl
]

escaped_is_short : (text : List ℕ) → length (escape text) ≤ 6 * length text
escaped_is_short [] = omega arith
escaped_is_short (byte ∷ text) =
    let here = leb-true (length (escape_byte byte)) 6 (and_parts _ _ (short_piece byte)).0 in
    omega (arith, here, escaped_is_short text, length-append (escape_byte byte) (escape text))

escaped_has_no_feed : (text : List ℕ) → list_all is_no_feed (escape text) ≡ true
escaped_has_no_feed [] = refl
escaped_has_no_feed (byte ∷ text) =
    list_all-append is_no_feed (escape_byte byte) (escape text)
    ∙ and_from _ _ (and_parts _ _ (short_piece byte)).1 (escaped_has_no_feed text)

quoted_has_no_feed : (text : List ℕ) → list_all is_no_feed (quoted text) ≡ true
quoted_has_no_feed text =
    list_all-append is_no_feed (escape text) (34 ∷ []) ∙ and_from _ _ (escaped_has_no_feed text) refl

digits_have_no_feed : (digits : List ℕ) → ((i : ℕ) → i < length digits → (48 ≤ get_or digits i 0) × (get_or digits i 0 ≤ 57)) → list_all is_no_feed digits ≡ true
digits_have_no_feed [] each = refl
digits_have_no_feed (digit ∷ digits) each =
    let first = each 0 (omega arith) in
    let apart : eqb digit LINE_FEED ≡ false = ne_eqb digit LINE_FEED (λ e. omega arith) in
    rw apart (digits_have_no_feed digits (λ i within. each (suc i) (omega arith)))

decimal_has_no_feed : (n : ℕ) → n < 2 ^ 64 → list_all is_no_feed (decimal n) ≡ true
decimal_has_no_feed n small = digits_have_no_feed (decimal n) (λ i within. digit_at _ i (decimal_is_IsNumeral n small).0.1 within)

both : (xs ys : List ℕ) → list_all is_no_feed xs ≡ true → list_all is_no_feed ys ≡ true → list_all is_no_feed (xs ++ ys) ≡ true
both xs ys first rest = list_all-append is_no_feed xs ys ∙ and_from _ _ first rest

pub lone_plan_has_no_feed : (version : Version) (row : GameRow) → IsFit row → list_all is_no_feed (lone_plan_of version row) ≡ true
lone_plan_has_no_feed version row fit =
    let small : row.quota < 2 ^ 64 = omega (arith, fit.small) in
    let end = decimal row.quota ++ plan_end version in
    let middle = codes ",\"quota\":" ++ end in
    let name = quoted row.game ++ middle in
    let ends = both (decimal row.quota) (plan_end version) (decimal_has_no_feed row.quota small) (end_has_no_feed version) in
    let goes_on = both (quoted row.game) middle (quoted_has_no_feed row.game) (both (codes ",\"quota\":") end refl ends) in
    ap (list_all is_no_feed) (lone_plan_text version row) ∙ both (codes "{\"games\":[{\"game\":") name refl goes_on

pub lone_plan_is_short : (version : Version) (row : GameRow) → IsFit row → length (lone_plan_of version row) ≤ 512
lone_plan_is_short version row fit =
    let n = decimal row.quota in
    let number : length n ≤ 8 = length-decimal-le 8 row.quota (omega arith) fit.small (omega (arith, fit.small)) in
    let name = escaped_is_short row.game in
    let quotes = length-append (escape row.game) (34 ∷ []) in
    let all = ap length (lone_plan_text version row) in
    let end = plan_end version in
    let last = end_is_short version in
    omega (arith, all, number, name, quotes, last, fit.short, length-append (quoted row.game) (codes ",\"quota\":" ++ (n ++ end)), length-append n end)

-- it is parsed as the plan with that row

lone_plan_from : (version : Version) (row : GameRow) → IsFit row → is_fit_row row ≡ true
    → plan_from (Some (lone_plan_data version row)) ≡ Ok (record { rows = row ∷ []; version = version })
unfolding lone_plan_data
lone_plan_from One row parts fit = rw (parts.most, fit) refl
lone_plan_from Two row parts fit = rw (parts.most, fit) refl
lone_plan_from Three row parts fit = rw (parts.most, fit) refl
lone_plan_from Five row parts fit = rw (parts.most, fit) refl

pub lone_plan_is_plan : (version : Version) (row : GameRow) → is_fit_row row ≡ true
    → plan_line_of (lone_plan_of version row) ≡ Ok (record { rows = row ∷ []; version = version })
unfolding plan_line_of value_of
lone_plan_is_plan version row fit =
    let parts = fit_parts row fit in
    let short = lone_plan_is_short version row parts in
    let small : row.quota < 2 ^ 64 = omega (arith, parts.small) in
    let is : value_of (lone_plan_of version row) ≡ Some (lone_plan_data version row) = rw (lone_plan_is_text version row parts) (lone_plan_reads version row small) in
    cond-false (nat_lt MAX_LINE (length (lone_plan_of version row))) _ _ (le-ltb MAX_LINE _ (omega (arith, short)))
    ∙ ap plan_from is ∙ lone_plan_from version row parts fit
