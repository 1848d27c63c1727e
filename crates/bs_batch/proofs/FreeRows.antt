-- Rows of cells and their bytes, and the clear cells of the rows.
use Rattle.std.proofs.Common.{◌≡◌, ℕ, zero, suc, ◌+◌, ◌-◌, ◌*◌, ◌<◌, ◌≤◌, true, List, [], ◌∷◌, ◌++◌, length, take, drop, map, get_or, cond, count_by, pos, refl, sym, ap, ◌∙◌, arith, inl, inr, length-append, length-drop}
use Rattle.std.specs.Prelude.{int_le}
use Rattle.std.specs.List.{filter, range_with_len, slice_range}
use Rattle.std.proofs.lemmas.Bool.{cases_Bool, le-leb}
use Rattle.std.proofs.lemmas.List.{get_or-drop, get_or-take, get_or_append_left, get_or-append-add, length-map, length-take-le, take-take}
use Rattle.std.proofs.lemmas.List.Elements.{filter-append}
use Rattle.std.proofs.lemmas.List.Sums.{sum_by-cons}
use Rattle.std.proofs.lemmas.List.FromFn.{fill_by_all, get_or-map-range_with_len, length-map-range_with_len}
use Rattle.std.proofs.lemmas.Simd.{map-map}
use Rattle.bs_board.specs.declared.boards.point.Point.{Point}
use Rattle.bs_board.specs.boards.Cell.{origin}
use Rattle.bs_board.specs.boards.Legal.{is_near}
use Rattle.bs_food.specs.Free.{all_cells, point_at, row_of_cells}
use Rattle.bs_food.proofs.Rows.{flat_range_more}
use Rattle.bs_batch.specs.Counts.{HasBytes}
use Rattle.bs_batch.specs.Numbers.{number_of}
use Rattle.bs_batch.specs.inner.FreeCells.{IsZeroOf, clear_cells, is_clear, is_zero}

pub near_at : (width height x y : ℕ) → x < width → y < height → is_near width height (point_at x y) ≡ true
near_at width height x y wide high =
    let right : int_le (pos x) (pos width) ≡ true = le-leb x width (omega arith) in
    let top : int_le (pos y) (pos height) ≡ true = le-leb y height (omega arith) in
    rw (right, top) refl

-- the bytes of a row, as the plane has them
pub row_bytes : (width height : ℕ) (byte : Point → ℕ) (plane : List ℕ) (row : ℕ) → HasBytes width height byte plane → row < height
    → take width (drop ((row + 1) * 32 + 1) plane) ≡ map byte (row_of_cells width row)
row_bytes width height byte plane row has high =
    let narrow = has.narrow in
    let room = has.room in
    let rest = length-drop ((row + 1) * 32 + 1) plane in
    let long : length (take width (drop ((row + 1) * 32 + 1) plane)) ≡ width = length-take-le width (drop ((row + 1) * 32 + 1) plane) (omega arith) in
    fill_by_all (λ x. byte (point_at x row)) (take width (drop ((row + 1) * 32 + 1) plane)) width 0 long
    (λ k within.
    let place : (row + 1) * 32 + 1 + k ≡ (row + 1) * 32 + (k + 1) = omega arith in
    get_or-take width (drop ((row + 1) * 32 + 1) plane) k 0 within ∙ get_or-drop ((row + 1) * 32 + 1) plane k 0 ∙ ap (λ n. get_or plane n 0) place
    ∙ has.bytes (point_at k row) (near_at width height k row within high))
    ∙ sym (map-map byte (λ x. point_at x row) (range_with_len 0 width))

-- the slice that is taken for a row
pub row_slice : (byte : Point → ℕ) (width height : ℕ) (plane : List ℕ) (row : ℕ) (cells : List ℕ) (start wide : ℕ) → HasBytes width height byte plane
    → row < height → start ≡ (row + 1) * 32 + 1 → wide ≡ width → cells ≡ slice_range plane start (start + wide) → cells ≡ map byte (row_of_cells width row)
row_slice byte width height plane row cells start wide has high at is taken =
    let count : start + wide - start ≡ width = omega arith in
    taken ∙ ap (λ n. take n (drop start plane)) count ∙ ap (λ n. take width (drop n plane)) at ∙ row_bytes width height byte plane row has high

-- the first of the lanes that are read for a row
pub lane_row : (byte : Point → ℕ) (width height : ℕ) (plane : List ℕ) (row : ℕ) (lanes : List ℕ) (start wide : ℕ) → HasBytes width height byte plane
    → row < height → start ≡ (row + 1) * 32 + 1 → wide ≡ width → lanes ≡ slice_range plane start (start + 32) → take wide lanes ≡ map byte (row_of_cells width row)
lane_row byte width height plane row lanes start wide has high at is taken =
    let narrow = has.narrow in
    let count : start + 32 - start ≡ 32 = omega arith in
    ap (take wide) (taken ∙ ap (λ n. take n (drop start plane)) count) ∙ take-take wide 32 (drop start plane) (omega arith)
    ∙ ap (λ n. take n (drop start plane)) is ∙ ap (λ n. take width (drop n plane)) at ∙ row_bytes width height byte plane row has high

one_more : (n : ℕ) (row : List ℕ) → count_by is_zero (n ∷ row) ≡ cond {A = ℕ} (is_zero n) 1 0 + count_by is_zero row
one_more n row = sum_by-cons (λ k. cond {A = ℕ} (is_zero k) 1 0) n row

-- the zeros of a row are its clear cells
pub zeros : {X : Type 0} (byte : X → ℕ) (cells : List X) → count_by is_zero (map byte cells) ≡ length (filter (λ p. is_zero (byte p)) cells)
zeros byte [] = refl
zeros byte (p ∷ cells) =
    let rest = zeros byte cells in
    one_more (byte p) (map byte cells)
    ∙ elim (cases_Bool (is_zero (byte p))) [ inl clear ↦ rw clear (omega arith) | inr taken ↦ rw taken (omega arith) ]

-- and the zero of a number is the clear cell of that number
pub zero_cell : {X : Type 0} (byte : X → ℕ) (cells : List X) (number column : ℕ) (d : X) → IsZeroOf (map byte cells) number column
    → get_or (filter (λ p. is_zero (byte p)) cells) number d ≡ get_or cells column d
zero_cell byte [] number column d is = let within = is.within in absurd (omega arith)
zero_cell byte (p ∷ cells) number zero d is =
    let clear : is_zero (byte p) ≡ true = rw is.zero_at refl in
    let first : 0 ≡ number = is.before in
    rw (clear, ← first) refl
zero_cell byte (p ∷ cells) number (suc column) d is =
    let within = is.within in
    let before : cond {A = ℕ} (is_zero (byte p)) 1 0 + count_by is_zero (take column (map byte cells)) ≡ number =
    sym (one_more (byte p) (take column (map byte cells))) ∙ is.before in
    elim (cases_Bool (is_zero (byte p))) [
      | inl clear ↦
          let more : 1 + count_by is_zero (take column (map byte cells)) ≡ number = rw clear at before in
          let rest : IsZeroOf (map byte cells) (number - 1) column = record { within = omega arith; zero_at = is.zero_at; before = omega arith } in
          let next : suc (number - 1) ≡ number = omega arith in
          rw clear (ap (λ n. get_or (p ∷ filter (λ q. is_zero (byte q)) cells) n d) (sym next) ∙ zero_cell byte cells (number - 1) column d rest)
      | inr taken ↦
          let same : 0 + count_by is_zero (take column (map byte cells)) ≡ number = rw taken at before in
          rw taken (zero_cell byte cells number column d (record { within = omega arith; zero_at = is.zero_at; before = omega arith }))
    ]

module _ (byte : Point → ℕ) (width : ℕ) where
  abbrev clear_of : ℕ → List Point
  clear_of row = filter (is_clear byte) (row_of_cells width row)

  -- one more row
  pub clear_more : (n : ℕ) → clear_cells byte width (n + 1) ≡ clear_cells byte width n ++ filter (is_clear byte) (row_of_cells width n)
  clear_more n =
      let next : n + 1 ≡ suc n = omega arith in
      ap (clear_cells byte width) next ∙ ap (filter (is_clear byte)) (flat_range_more (row_of_cells width) n)
      ∙ filter-append (is_clear byte) (all_cells width n) (row_of_cells width n)

  pub length_more : (n : ℕ) → length (clear_cells byte width (n + 1)) ≡ length (clear_cells byte width n) + length (filter (is_clear byte) (row_of_cells width n))
  length_more n = ap length (clear_more n) ∙ length-append (clear_cells byte width n) (clear_of n)

  no_fewer : (n k : ℕ) → length (clear_cells byte width n) ≤ length (clear_cells byte width (n + k))
  no_fewer n zero = let same : n + 0 ≡ n = omega arith in rw same (omega arith)
  no_fewer n (suc k) =
      let next : n + suc k ≡ n + k + 1 = omega arith in
      let before = no_fewer n k in
      let more = length_more (n + k) in
      rw next (omega arith)

  -- the rows below keep their cells
  in_front : (n k i : ℕ) (d : Point) → i < length (clear_cells byte width n) → get_or (clear_cells byte width (n + k)) i d ≡ get_or (clear_cells byte width n) i d
  in_front n zero i d within = let same : n + 0 ≡ n = omega arith in rw same refl
  in_front n (suc k) i d within =
      let next : n + suc k ≡ n + k + 1 = omega arith in
      let more = no_fewer n k in
      let inside : i < length (clear_cells byte width (n + k)) = omega arith in
      ap (λ m. get_or (clear_cells byte width m) i d) next ∙ ap (λ l. get_or l i d) (clear_more (n + k))
      ∙ get_or_append_left (clear_cells byte width (n + k)) (clear_of (n + k)) d i inside ∙ in_front n k i d within

  -- the clear cell of a row, after those of the rows below
  pub clear_at : (height row left number : ℕ) (d : Point) → row < height → left < length (filter (is_clear byte) (row_of_cells width row))
      → left + length (clear_cells byte width row) ≡ number
      → get_or (clear_cells byte width height) number d ≡ get_or (filter (is_clear byte) (row_of_cells width row)) left d
  clear_at height row left number d high within is =
      let more = length_more row in
      let whole : row + 1 + (height - (row + 1)) ≡ height = omega arith in
      let place : number ≡ length (clear_cells byte width row) + left = omega arith in
      ap (λ m. get_or (clear_cells byte width m) number d) (sym whole) ∙ in_front (row + 1) (height - (row + 1)) number d (omega arith)
      ∙ ap (λ l. get_or l number d) (clear_more row) ∙ ap (λ n. get_or (clear_cells byte width row ++ clear_of row) n d) place
      ∙ get_or-append-add (clear_cells byte width row) (clear_of row) left d

  -- the number of the clear cell in that column of a row
  pub number_at : (height row left number column : ℕ) (bytes : List ℕ) → row < height → bytes ≡ map byte (row_of_cells width row)
      → left < count_by is_zero bytes → IsZeroOf bytes left column → left + length (clear_cells byte width row) ≡ number
      → number_of (get_or (clear_cells byte width height) number origin) ≡ (row + 1) * 32 + (column + 1)
  number_at height row left number column bytes high are some at is =
      let count = zeros byte (row_of_cells width row) in
      let same : count_by is_zero bytes ≡ length (clear_of row) = ap (count_by is_zero) are ∙ count in
      let here : IsZeroOf (map byte (row_of_cells width row)) left column = rw are at at in
      let across = here.within in
      let long = length-map (row_of_cells width row) byte in
      let wide = length-map-range_with_len (λ x. point_at x row) 0 width in
      let cell : get_or (clear_cells byte width height) number origin ≡ point_at column row =
      clear_at height row left number origin high (omega arith) is ∙ zero_cell byte (row_of_cells width row) left column origin here
      ∙ get_or-map-range_with_len (λ x. point_at x row) 0 width column column origin (omega arith) (omega arith) in
      ap number_of cell
