-- The cells without a mark are the free ones.
use Rattle.std.proofs.Common.{◌≡◌, ℕ, zero, suc, ◌*◌, ◌<◌, Bool, true, false, not, ◌&&◌, ◌||◌, List, replicate, refl, ap, ◌∙◌, arith, slice_index_or}
use Rattle.std.specs.List.{filter, flat_map, list_any, range_with_len}
use Rattle.bs_board.specs.declared.boards.point.Point.{Point}
use Rattle.bs_board.specs.declared.boards.board.Board.{Board}
use Rattle.bs_board.specs.boards.Cell.{is_same_cell, cell_index}
use Rattle.bs_food.specs.Free.{point_at, row_of_cells, free_cells, is_free_cell, stands_on}
use Rattle.bs_food.specs.Marks.{MarksCells, MarksSnakes, is_marked}
use Rattle.bs_food.specs.inner.Marks.{unmarked}
use Rattle.std.proofs.lemmas.List.Elements.{filter-append}
use Rattle.bs_food.proofs.Rows.{row_more, flat_range_more}

-- two tests that agree on a row select the same cells of it
same_row : (p q : Point → Bool) (y : ℕ) (x : ℕ) → ((k : ℕ) → k < x → p (point_at k y) ≡ q (point_at k y))
    → filter p (row_of_cells x y) ≡ filter q (row_of_cells x y)
same_row p q y zero agree = refl
same_row p q y (suc x) agree =
    let before = same_row p q y x (λ k h. agree k (omega arith)) in
    let here = agree x (omega arith) in
    rw (row_more p x y, row_more q x y, before, here) refl

-- and the same cells of all rows
same_rows : (p q : Point → Bool) (width height : ℕ) → ((x y : ℕ) → x < width → y < height → p (point_at x y) ≡ q (point_at x y))
    → flat_map (λ y. filter p (row_of_cells width y)) (range_with_len 0 height) ≡ filter q (flat_map (row_of_cells width) (range_with_len 0 height))
same_rows p q width zero agree = refl
same_rows p q width (suc height) agree =
    let before = same_rows p q width height (λ x y hx hy. agree x y hx (omega arith)) in
    let here = same_row p q height width (λ k h. agree k height h (omega arith)) in
    rw (
      flat_range_more (λ y. filter p (row_of_cells width y)) height,
      flat_range_more (row_of_cells width) height,
      filter-append,
      before,
      here,
    ) refl

-- no cell is marked at first
no_mark : (count place : ℕ) → slice_index_or (replicate count false) place false ≡ false
no_mark zero place = refl
no_mark (suc count) zero = refl
no_mark (suc count) (suc place) = no_mark count place

neither : (a b : Bool) → not (a || b) ≡ (not a && not b)
neither true b = refl
neither false b = refl

pub unmarked_are_free : (b : Board) (first second third : List Bool) → first ≡ replicate (b.width * b.height) false
    → MarksCells b.width b.height b.food first second → MarksSnakes b.width b.height b.snakes second third
    → unmarked b.width b.height third ≡ free_cells b
unfolding free_cells
unmarked_are_free b first second third none food snakes =
    same_rows (λ p. not (is_marked b.width third p)) (is_free_cell b) b.width b.height
    (λ x y hx hy.
    let p : Point = point_at x y in
    let clear : is_marked b.width first p ≡ false = rw none (no_mark (b.width * b.height) (cell_index b.width p)) in
    let fed : is_marked b.width second p ≡ list_any (is_same_cell p) b.food = food.adds x y hx hy ∙ ap (λ m. m || list_any (is_same_cell p) b.food) clear in
    let all : is_marked b.width third p ≡ (list_any (is_same_cell p) b.food || list_any (stands_on p) b.snakes) =
    snakes.adds x y hx hy ∙ ap (λ m. m || list_any (stands_on p) b.snakes) fed in
    ap not all ∙ neither _ _)
