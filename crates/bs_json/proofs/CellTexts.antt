-- The tables of the texts of columns and rows.
use Rattle.std.proofs.Common.{◌≡◌, ℕ, zero, suc, ◌/◌, ◌%◌, ◌+◌, ◌<◌, Bool, true, false, List, [], ◌∷◌, ◌++◌, codes, length, get_or, take, refl, sym, ap, ◌∙◌, append_assoc, length-append, arith}
use Rattle.std.proofs.Math.Seq.{take-append_seam}
use Rattle.std.proofs.lemmas.Bool.{ltb-false, ltb-true}
use Rattle.std.specs.Prelude.{decimal, nat_lt, slice_set}
use Rattle.bs_json.proofs.ShownCells.{one_digit, two_digits}

-- ---- the entries, from the digits of their numbers

abbrev pub digits : Bool → ℕ → List ℕ
digits true n = (48 + n) ∷ []
digits false n = (48 + n / 10) ∷ (48 + n % 10) ∷ []

-- the space behind a number of one digit
abbrev pub space : Bool → List ℕ
space true = 32 ∷ []
space false = []

abbrev pub column_entry : ℕ → List ℕ
column_entry n = codes ",{\"x\":" ++ (digits (nat_lt n 10) n ++ space (nat_lt n 10))

abbrev pub row_entry : ℕ → List ℕ
row_entry n = codes ",\"y\":" ++ (digits (nat_lt n 10) n ++ (125 ∷ space (nat_lt n 10)))

-- `count` entries, from that of the number `first` on
abbrev pub entries : (ℕ → List ℕ) → ℕ → ℕ → List (List ℕ)
entries entry first zero = []
entries entry first (suc count) = entry first ∷ entries entry (first + 1) count

-- ---- what is read

entry_at : (entry : ℕ → List ℕ) (first count i : ℕ) (d : List ℕ) → i < count → get_or (entries entry first count) i d ≡ entry (first + i)
entry_at entry first zero i d less = absurd (omega (arith, less))
entry_at entry first (suc count) zero d less = ap entry (omega arith)
entry_at entry first (suc count) (suc i) d less = entry_at entry (first + 1) count i d (omega (arith, less)) ∙ ap entry (omega arith)

entry_is : (entry : ℕ → List ℕ) (count i : ℕ) (d : List ℕ) → i < count → get_or (entries entry 0 count) i d ≡ entry i
entry_is entry count i d less = entry_at entry 0 count i d less ∙ ap entry (omega arith)

digits_are : (b : Bool) (n : ℕ) → nat_lt n 10 ≡ b → n < 100 → digits b n ≡ decimal n
digits_are true n is few = one_digit n (ltb-true n 10 is)
digits_are false n is few = two_digits n (ltb-false n 10 is) few

pub column_is : (lead n at : ℕ) → at ≡ n → n < 25
    → take (6 + length (decimal n)) (slice_set (get_or (entries column_entry 0 25) at []) 0 lead) ≡ lead ∷ (codes "{\"x\":" ++ decimal n)
column_is lead n at is less =
    let text = decimal n in
    let behind = space (nat_lt n 10) in
    let read : get_or (entries column_entry 0 25) at [] ≡ codes ",{\"x\":" ++ (text ++ behind) =
    ap (λ (k : ℕ). get_or (entries column_entry 0 25) k []) is ∙ entry_is column_entry 25 n [] less ∙ ap (λ (t : List ℕ). codes ",{\"x\":" ++ (t ++ behind)) (digits_are (nat_lt n 10) n refl (omega (arith, less))) in
    ap (λ (l : List ℕ). take (6 + length text) (slice_set l 0 lead)) read
    ∙ ap (λ (k : ℕ). take k (lead ∷ (codes "{\"x\":" ++ (text ++ behind)))) (sym (length-append (lead ∷ codes "{\"x\":") text))
    ∙ take-append_seam (lead ∷ (codes "{\"x\":" ++ text)) behind

pub row_is : (n at : ℕ) → at ≡ n → n < 25
    → take (6 + length (decimal n)) (get_or (entries row_entry 0 25) at []) ≡ codes ",\"y\":" ++ (decimal n ++ codes "}")
row_is n at is less =
    let text = decimal n in
    let behind = space (nat_lt n 10) in
    let read : get_or (entries row_entry 0 25) at [] ≡ codes ",\"y\":" ++ (text ++ (125 ∷ behind)) =
    ap (λ (k : ℕ). get_or (entries row_entry 0 25) k []) is ∙ entry_is row_entry 25 n [] less ∙ ap (λ (t : List ℕ). codes ",\"y\":" ++ (t ++ (125 ∷ behind))) (digits_are (nat_lt n 10) n refl (omega (arith, less))) in
    let whole : 6 + length text ≡ length (codes ",\"y\":" ++ (text ++ codes "}")) =
    (let outer = length-append (codes ",\"y\":") (text ++ codes "}") in let inner = length-append text (codes "}") in omega (arith, outer, inner)) in
    ap (take (6 + length text)) (read ∙ ap (λ (t : List ℕ). codes ",\"y\":" ++ t) (sym (append_assoc text (codes "}") behind)))
    ∙ ap (λ (k : ℕ). take k (codes ",\"y\":" ++ ((text ++ codes "}") ++ behind))) whole
    ∙ take-append_seam (codes ",\"y\":" ++ (text ++ codes "}")) behind
