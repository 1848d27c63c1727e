-- The text of numbers and cells, from their bytes.
use Rattle.std.proofs.Common.{◌≡◌, ℕ, suc, ◌/◌, ◌%◌, ◌+◌, ◌-◌, ◌<◌, ◌≤◌, Bool, true, false, List, [], ◌∷◌, ◌++◌, codes, ℤ, pos, negsuc, nat_abs, ◌+ℤ◌, ◌-ℤ◌, ◌≤ℤ◌, All, length, get_or, take, drop, refl, sym, ap, ap₂, ◌∙◌, append_assoc, ◌^◌, arith}
use Rattle.std.specs.Prelude.{decimal, flat_map, map}
use Rattle.std.specs.List.{AllByRecursion}
use Rattle.std.proofs.lemmas.Fmt.{decimal_digit, decimal_step}
use Rattle.std.proofs.lemmas.Int.{ints}
use Rattle.std.proofs.lemmas.List.{take_rest}
use Rattle.std.proofs.lemmas.List.Elements.{recursion_from_All}
use Rattle.itoa.proofs.Decimal.{decimal_two}
use Rattle.json.specs.Print.{escape_byte}
use Rattle.serde_json.specs.Data.{Data, Items, item}
use Rattle.serde_json.specs.View.{items_of}
use Rattle.serde_json.specs.Written.{compact_text, items_text}
use Rattle.bs_board.specs.declared.boards.point.Point.{Point}
use Rattle.bs_board.specs.records.Record.{cell_bytes}
use Rattle.bs_board.specs.records.Writing.{IsByteCell}
use Rattle.bs_json.specs.Boards.{cell_data}
use Rattle.bs_json.specs.inner.BoardText.{byte_before, cell_of, cells_of, coordinate_text, list_rest}
use Rattle.bs_json.specs.Text.{Text, put}
use Rattle.bs_json.proofs.Puts.{next, put_step}

-- ---- short numbers

pub one_digit : (number : ℕ) → number < 10 → (48 + number) ∷ [] ≡ decimal number
one_digit number few = sym (decimal_digit number few)

pub two_digits : (number : ℕ) → 10 ≤ number → number < 100 → (48 + number / 10) ∷ (48 + number % 10) ∷ [] ≡ decimal number
two_digits number many few = sym (decimal_two number many few)

-- a number of more digits, of which the last two are written behind the others
pub by_hundreds : (number : ℕ) → 100 ≤ number → number < 2 ^ 64 → decimal (number / 100) ++ ((48 + number % 100 / 10) ∷ (48 + number % 100 % 10) ∷ []) ≡ decimal number
by_hundreds number many few =
    let fewer : number / 10 / 10 ≡ number / 100 = omega arith in
    let tens : number / 10 % 10 ≡ number % 100 / 10 = omega arith in
    let ones : number % 10 ≡ number % 100 % 10 = omega arith in
    let first = decimal_step (number / 10) (omega arith) (omega arith) in
    let last = decimal_step number (omega arith) few in
    sym (last ∙ ap (λ (t : List ℕ). t ++ (48 + number % 10) ∷ []) first ∙ append_assoc (decimal (number / 10 / 10)) ((48 + number / 10 % 10) ∷ []) ((48 + number % 10) ∷ [])
    ∙ ap₂ (λ (a : ℕ) (b : ℕ). decimal (number / 10 / 10) ++ ((48 + a) ∷ (48 + b) ∷ [])) tens ones
    ∙ ap (λ (n : ℕ). decimal n ++ ((48 + number % 100 / 10) ∷ (48 + number % 100 % 10) ∷ [])) fewer)

-- ---- cells

pub coordinate_inside : (raised byte : ℕ) → raised ≤ byte → coordinate_text (pos byte -ℤ pos raised) ≡ decimal (byte - raised)
coordinate_inside raised byte inside =
    let same : pos byte -ℤ pos raised ≡ pos (byte - raised) = omega (arith, ints) in
    ap coordinate_text same

coordinate_beyond : (raised byte : ℕ) → byte < raised → coordinate_text (pos byte -ℤ pos raised) ≡ 45 ∷ decimal (raised - byte)
coordinate_beyond raised byte beyond =
    let same : pos byte -ℤ pos raised ≡ negsuc (raised - byte - 1) = omega (arith, ints) in
    let less : suc (raised - byte - 1) ≡ raised - byte = omega arith in
    ap coordinate_text same ∙ ap (λ n. 45 ∷ decimal n) less

-- with the sign pushed first
pub beyond_pieces : (t0 t1 t2 : Text) (raised byte : ℕ) → byte < raised → t1 ≡ put t0 (45 ∷ []) → t2 ≡ put t1 (decimal (raised - byte)) → t2 ≡ put t0 (coordinate_text (pos byte -ℤ pos raised))
beyond_pieces t0 t1 t2 raised byte beyond one two = next _ _ _ _ _ one two ∙ ap (put t0) (sym (coordinate_beyond raised byte beyond))

-- ---- a column and a row, with the text around them

pub column_pieces : (t0 t1 t2 : Text) (lead raised x : ℕ) → t1 ≡ put t0 (lead ∷ codes "{\"x\":") → t2 ≡ put t1 (coordinate_text (pos x -ℤ pos raised))
    → t2 ≡ put t0 (lead ∷ (codes "{\"x\":" ++ coordinate_text (pos x -ℤ pos raised)))
column_pieces t0 t1 t2 lead raised x one two = next _ _ _ _ _ one two

pub row_pieces : (t0 t1 t2 t3 : Text) (raised y : ℕ) → t1 ≡ put t0 (codes ",\"y\":") → t2 ≡ put t1 (coordinate_text (pos y -ℤ pos raised)) → t3 ≡ put t2 (codes "}")
    → t3 ≡ put t0 (codes ",\"y\":" ++ (coordinate_text (pos y -ℤ pos raised) ++ codes "}"))
row_pieces t0 t1 t2 t3 raised y one two three = next _ _ _ _ _ one (next _ _ _ _ _ two three)

-- what was pushed, step by step
pub cell_pieces : (t0 t1 t2 : Text) (lead raised x y : ℕ) → t1 ≡ put t0 (lead ∷ (codes "{\"x\":" ++ coordinate_text (pos x -ℤ pos raised)))
    → t2 ≡ put t1 (codes ",\"y\":" ++ (coordinate_text (pos y -ℤ pos raised) ++ codes "}")) → t2 ≡ put t0 (lead ∷ compact_text (cell_data (cell_of raised x y)))
unfolding escape_byte
cell_pieces t0 t1 t2 lead raised x y one two = next _ _ _ _ _ one two

-- ---- cells and their bytes

not_negative : (z : ℤ) → pos 0 ≤ℤ z → pos (nat_abs z) ≡ z
not_negative (pos n) low = refl
not_negative (negsuc n) low = absurd (omega (arith, ints))

raised_again : (z : ℤ) (raised : ℕ) → pos 0 ≤ℤ (z +ℤ pos raised) → pos (nat_abs (z +ℤ pos raised)) -ℤ pos raised ≡ z
raised_again z raised low = rw (not_negative (z +ℤ pos raised) low) (omega (arith, ints))

cells_back : (raised : ℕ) (cells : List Point) → AllByRecursion (IsByteCell raised) cells → cells_of raised (flat_map (cell_bytes raised) cells) ≡ cells
cells_back raised [] fits = refl
cells_back raised (p ∷ cells) fits = rw (raised_again p.x raised fits.0.x.0, raised_again p.y raised fits.0.y.0, cells_back raised cells fits.1) refl

-- cells are decoded from their own bytes
pub cells_again : (raised : ℕ) (cells : List Point) (bytes : List ℕ) → All (IsByteCell raised) cells → bytes ≡ flat_map (cell_bytes raised) cells → cells_of raised bytes ≡ cells
cells_again raised cells bytes fits is = ap (cells_of raised) is ∙ cells_back raised cells (recursion_from_All (IsByteCell raised) cells fits)

-- one item of those that are left
pub rest_of_item : (later : Bool) (d : Data) (ds : Items) → list_rest later (item d ds) ≡ (byte_before later ∷ compact_text d) ++ items_text true ds
rest_of_item true d ds = refl
rest_of_item false d ds = refl

-- one cell of those that are left
pub one_cell : (raised : ℕ) (left : List ℕ) (lead x y : ℕ) (later : Bool) (t0 t1 total : Text) → 2 ≤ length left → lead ≡ byte_before later → x ≡ get_or left 0 0 → y ≡ get_or left 1 0
    → t1 ≡ put t0 (lead ∷ compact_text (cell_data (cell_of raised x y))) → put t0 (list_rest later (items_of (map cell_data (cells_of raised left)))) ≡ total
    → put t1 (list_rest true (items_of (map cell_data (cells_of raised (take (length left - 2) (drop 2 left)))))) ≡ total
one_cell raised [] lead x y later t0 t1 total many opens first second one so_far = absurd (omega (arith, many))
one_cell raised (a ∷ []) lead x y later t0 t1 total many opens first second one so_far = absurd (omega (arith, many))
one_cell raised (a ∷ b ∷ rest) lead x y later t0 t1 total many opens first second one so_far =
    let written : t1 ≡ put t0 (byte_before later ∷ compact_text (cell_data (cell_of raised a b))) =
    one ∙ ap (λ l. put t0 (l ∷ compact_text (cell_data (cell_of raised x y)))) opens
    ∙ ap₂ (λ p q. put t0 (byte_before later ∷ compact_text (cell_data (cell_of raised p q)))) first second in
    ap (λ bytes. put t1 (items_text true (items_of (map cell_data (cells_of raised bytes))))) (take_rest (a ∷ b ∷ rest) 2)
    ∙ put_step t0 t1 total (byte_before later ∷ compact_text (cell_data (cell_of raised a b))) (items_text true (items_of (map cell_data (cells_of raised rest)))) written
    (ap (put t0) (sym (rest_of_item later (cell_data (cell_of raised a b)) (items_of (map cell_data (cells_of raised rest))))) ∙ so_far)
