-- The free cells of a board, by its plane.
use Rattle.std.proofs.Common.{◌≡◌, ℕ, zero, suc, ◌+◌, ◌-◌, ◌*◌, ◌/◌, ◌%◌, ◌<◌, ◌≤◌, true, cond, List, [], ◌∷◌, ◌++◌, length, take, drop, map, get_or, count_by, refl, sym, ap, ◌∙◌, arith, inl, inr, length-append}
use Rattle.std.specs.List.{filter, flat_map, range_with_len}
use Rattle.std.proofs.Math.Nat.{mod-lt, div-lt_iff_lt-mul}
use Rattle.std.proofs.lemmas.Nat.{div-add-mod'}
use Rattle.std.proofs.lemmas.Bool.{cases_Bool}
use Rattle.std.proofs.lemmas.List.{append_assoc, ext_get_or, get_or-map, get_or_append_left, get_or-append-add, length-map, take-append-drop}
use Rattle.std.proofs.Math.Seq.{take-append-add}
use Rattle.std.proofs.lemmas.List.Sums.{sum_by-append, sum_by-cons, sum_by-take-drop}
use Rattle.std.proofs.lemmas.List.FromFn.{get_or-map-range_with_len, length-map-range_with_len}
use Rattle.bs_board.specs.declared.boards.point.Point.{Point}
use Rattle.bs_board.specs.boards.Cell.{origin}
use Rattle.bs_food.specs.Free.{all_cells, point_at, row_of_cells}
use Rattle.bs_plane.specs.declared.cell.Cell.{Cell}
use Rattle.bs_plane.specs.Plane.{HasCells, is_free, nothing}
use Rattle.bs_plane.specs.inner.Food.{FindsFree, IsFreeOf}

row_length : (width y : ℕ) → length (row_of_cells width y) ≡ width
row_length width y = length-map-range_with_len (λ c. point_at c y) 0 width

rows_length : (width a n : ℕ) → length (flat_map (row_of_cells width) (range_with_len a n)) ≡ width * n
rows_length width a zero = omega arith
rows_length width a (suc n) =
    let rest = rows_length width (a + 1) n in
    let row = row_length width a in
    let both = length-append (row_of_cells width a) (flat_map (row_of_cells width) (range_with_len (a + 1) n)) in
    let more : width * suc n ≡ width + width * n = omega arith in
    omega arith

-- the cell of a column in the k-th of the rows
row_cell : (width a n k x : ℕ) (d : Point) → x < width → k < n → get_or (flat_map (row_of_cells width) (range_with_len a n)) (k * width + x) d ≡ point_at x (a + k)
row_cell width a zero k x d wide high = absurd (omega arith)
row_cell width a (suc n) zero x d wide high =
    let rest = flat_map (row_of_cells width) (range_with_len (a + 1) n) in
    let place : zero * width + x ≡ x = omega arith in
    let row : a ≡ a + 0 = omega arith in
    let long = row_length width a in
    let within : x < length (row_of_cells width a) = omega arith in
    ap (λ i. get_or (row_of_cells width a ++ rest) i d) place ∙ get_or_append_left (row_of_cells width a) rest d x within
    ∙ get_or-map-range_with_len (λ c. point_at c a) 0 width x x d wide (omega arith) ∙ ap (point_at x) row
row_cell width a (suc n) (suc k) x d wide high =
    let rest = flat_map (row_of_cells width) (range_with_len (a + 1) n) in
    let long = row_length width a in
    let count : suc k * width + x ≡ width + (k * width + x) = omega arith in
    let place : suc k * width + x ≡ length (row_of_cells width a) + (k * width + x) = count ∙ ap (λ n. n + (k * width + x)) (sym long) in
    let row : a + 1 + k ≡ a + suc k = omega arith in
    ap (λ i. get_or (row_of_cells width a ++ rest) i d) place ∙ get_or-append-add (row_of_cells width a) rest (k * width + x) d
    ∙ row_cell width (a + 1) n k x d wide (omega arith) ∙ ap (point_at x) row

pub cell_at : (width height x y : ℕ) (d : Point) → x < width → y < height → get_or (all_cells width height) (y * width + x) d ≡ point_at x y
cell_at width height x y d wide high =
    let row : 0 + y ≡ y = omega arith in
    row_cell width 0 height y x d wide high ∙ ap (point_at x) row

-- a place by its column and row
pub record AtPlace (width height place : ℕ) : Type 0 where
  pub x : ℕ
  pub y : ℕ
  pub wide : x < width
  pub high : y < height
  pub is : y * width + x ≡ place

pub at_place : (width height place : ℕ) → place < width * height → AtPlace width height place
at_place zero height place within = absurd (omega arith)
at_place (suc w) height place within =
    let width = suc w in
    let some : zero < suc w = omega arith in
    record {
      x = place % suc w;
      y = place / suc w;
      wide = mod-lt place some;
      high = (div-lt_iff_lt-mul {k = suc w} {x = place} {y = height} some).1 (omega arith);
      is = div-add-mod' place (suc w);
    }

pub cells_are : (width height : ℕ) (on : Point → Cell) (cells : List Cell) → HasCells width height on cells → cells ≡ map on (all_cells width height)
cells_are width height on cells has =
    let all = rows_length width 0 height in
    let many : length (map on (all_cells width height)) ≡ width * height = length-map (all_cells width height) on ∙ all in
    let room = has.room in
    ext_get_or nothing cells (map on (all_cells width height)) (room ∙ sym many)
    (λ i within.
    let inside : i < width * height = rw room at within in
    let at = at_place width height i inside in
    let listed : i < length (all_cells width height) = rw all inside in
    ap (λ k. get_or cells k nothing) (sym at.is) ∙ has.each at.x at.y at.wide at.high
    ∙ ap on (sym (cell_at width height at.x at.y origin at.wide at.high) ∙ ap (λ k. get_or (all_cells width height) k origin) at.is)
    ∙ sym (get_or-map on (all_cells width height) i origin nothing listed))

-- ---- free cells

one_more : (c : Cell) (cells : List Cell) → count_by is_free (c ∷ cells) ≡ cond {A = ℕ} (is_free c) 1 0 + count_by is_free cells
one_more c cells = sum_by-cons (λ k. cond {A = ℕ} (is_free k) 1 0) c cells

pub free_counted : (on : Point → Cell) (cells : List Point) → count_by is_free (map on cells) ≡ length (filter (λ p. is_free (on p)) cells)
free_counted on [] = refl
free_counted on (p ∷ cells) =
    let rest = free_counted on cells in
    one_more (on p) (map on cells)
    ∙ elim (cases_Bool (is_free (on p))) [ inl free ↦ rw free (omega arith) | inr taken ↦ rw taken (omega arith) ]

-- the free cell of a number
pub free_found : (on : Point → Cell) (cells : List Point) (number place : ℕ) (d : Point) → IsFreeOf (map on cells) number place
    → get_or (filter (λ p. is_free (on p)) cells) number d ≡ get_or cells place d
free_found on [] number place d is = let within = is.within in absurd (omega arith)
free_found on (p ∷ cells) number zero d is =
    let clear : is_free (on p) ≡ true = is.free in
    let first : 0 ≡ number = is.before in
    rw (clear, ← first) refl
free_found on (p ∷ cells) number (suc place) d is =
    let within = is.within in
    let before : cond {A = ℕ} (is_free (on p)) 1 0 + count_by is_free (take place (map on cells)) ≡ number =
    sym (one_more (on p) (take place (map on cells))) ∙ is.before in
    elim (cases_Bool (is_free (on p))) [
      | inl clear ↦
          let more : 1 + count_by is_free (take place (map on cells)) ≡ number = rw clear at before in
          let rest : IsFreeOf (map on cells) (number - 1) place = record { within = omega arith; free = is.free; before = omega arith } in
          let next : suc (number - 1) ≡ number = omega arith in
          rw clear (ap (λ n. get_or (p ∷ filter (λ q. is_free (on q)) cells) n d) (sym next) ∙ free_found on cells (number - 1) place d rest)
      | inr taken ↦
          let same : 0 + count_by is_free (take place (map on cells)) ≡ number = rw taken at before in
          rw taken (free_found on cells number place d (record { within = omega arith; free = is.free; before = omega arith }))
    ]

-- ---- the free cells of a chunk and of the cells after it

pub chunk_and_rest : (n : ℕ) (cells : List Cell) → count_by is_free (take n cells) + count_by is_free (drop n cells) ≡ count_by is_free cells
chunk_and_rest n cells = sum_by-take-drop (λ k. cond {A = ℕ} (is_free k) 1 0) cells n

both_counted : (xs ys : List Cell) → count_by is_free (xs ++ ys) ≡ count_by is_free xs + count_by is_free ys
both_counted xs ys = sum_by-append (λ k. cond {A = ℕ} (is_free k) 1 0) xs ys

-- the last of the cells, and the number there of the free cell of that number
pub record IsRest (cells : List Cell) (number : ℕ) (rest : List Cell) (left : ℕ) : Type 0 where
  pub before : List Cell
  pub is : cells ≡ before ++ rest
  pub counted : number ≡ count_by is_free before + left

pub rest_after : (cells : List Cell) (number : ℕ) (rest : List Cell) (left n free : ℕ) → free ≡ count_by is_free (take n rest) → free ≤ left
    → IsRest cells number rest left → IsRest cells number (drop n rest) (left - free)
rest_after cells number rest left n free counts most r =
    let both = both_counted r.before (take n rest) in
    let counted = r.counted in
    record {
      before = r.before ++ take n rest;
      is = r.is ∙ ap (λ l. r.before ++ l) (sym (take-append-drop n rest)) ∙ sym (append_assoc r.before (take n rest) (drop n rest));
      counted = omega arith;
    }

pub found_in_rest : (cells : List Cell) (number : ℕ) (rest : List Cell) (left place : ℕ) → IsRest cells number rest left → FindsFree rest left place
    → FindsFree cells number (length cells - length rest + place)
found_in_rest cells number rest left place r finds some =
    let both = ap (count_by is_free) r.is ∙ both_counted r.before rest in
    let counted = r.counted in
    let at = finds (omega arith) in
    let within = at.within in
    let long = ap length r.is ∙ length-append r.before rest in
    let start : length cells - length rest + place ≡ length r.before + place = omega arith in
    record {
      within = omega arith;
      free = rw start (ap (λ l. is_free (get_or l (length r.before + place) nothing)) r.is ∙ ap is_free (get_or-append-add r.before rest place nothing) ∙ at.free);
      before =
          rw start
          (ap (λ l. count_by is_free (take (length r.before + place) l)) r.is ∙ ap (count_by is_free) (take-append-add r.before rest place)
          ∙ both_counted r.before (take place rest) ∙ ap (λ n. count_by is_free r.before + n) at.before ∙ sym r.counted);
    }
