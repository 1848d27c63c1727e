-- The places of cells on a board, row after row, and their marks.
use Rattle.std.proofs.Common.{◌≡◌, ℕ, ◌+◌, ◌*◌, ◌<◌, Bool, true, false, ◌||◌, List, length, set, pos, nat_abs, refl, sym, ap, ◌∙◌, arith, inl, inr, slice_set}
use Rattle.std.specs.Prelude.{int_le, int_lt}
use Rattle.std.specs.Ordering.{int_eq}
use Rattle.std.proofs.lemmas.Bool.{lt-ltb, le-leb, cases_Bool, cases_eq}
use Rattle.std.proofs.Math.Bool.{or-true, or-false}
use Rattle.std.proofs.lemmas.Nat.{mul-add-lt, same_from_place}
use Rattle.std.proofs.lemmas.List.{get_or-set_same, get_or-set_other}
use Rattle.bs_board.specs.declared.boards.point.Point.{Point}
use Rattle.bs_board.specs.boards.Cell.{is_same_cell, is_on_board, cell_index}
use Rattle.bs_board.proofs.Chains.{and_both}
use Rattle.bs_board.proofs.boards.CellsOnBoard.{StandsAt, stands_at, same_int, int_is}
use Rattle.bs_food.specs.Free.{point_at}
use Rattle.bs_food.specs.Marks.{is_marked}
use Rattle.bs_food.specs.inner.Marks.{MarksCell}

pub place_fits : (width height : ℕ) (p : Point) → is_on_board width height p ≡ true → cell_index width p < width * height
place_fits width height p on =
    let at = stands_at width height p on in
    mul-add-lt (nat_abs p.y) width (nat_abs p.x) height at.y_fits at.x_fits

same_cell : {width height : ℕ} (x y : ℕ) (p : Point) → StandsAt width height p → x ≡ nat_abs p.x → y ≡ nat_abs p.y
    → is_same_cell (point_at x y) p ≡ true
same_cell x y p at ex ey =
    let ix : int_eq (pos x) p.x ≡ true = same_int _ _ (ap pos ex ∙ sym at.x_is) in
    let iy : int_eq (pos y) p.y ≡ true = same_int _ _ (ap pos ey ∙ sym at.y_is) in
    rw (ix, iy) refl

-- a cell with another index is another cell
other_cell : {height : ℕ} (width x y : ℕ) (p : Point) → StandsAt width height p → (y * width + x ≡ cell_index width p → ⊥)
    → is_same_cell (point_at x y) p ≡ false
other_cell width x y p at other =
    elim (cases_Bool (is_same_cell (point_at x y) p)) [
      | inl same ↦
          let both = and_both _ _ same in
          let px : pos x ≡ p.x = int_is _ _ both.0 in
          let py : pos y ≡ p.y = int_is _ _ both.1 in
          let ex : x ≡ nat_abs p.x = ap nat_abs px in
          let ey : y ≡ nat_abs p.y = ap nat_abs py in
          absurd (other (rw (ex, ey) refl))
      | inr differ ↦ differ
    ]

-- two cells on one board, of which one is marked
here_or_elsewhere : (width height : ℕ) (marks : List Bool) (p : Point) (x y : ℕ) → StandsAt width height p → length marks ≡ width * height
    → x < width → y < height
    → is_marked width (set marks (cell_index width p) true) (point_at x y) ≡ (is_marked width marks (point_at x y) || is_same_cell (point_at x y) p)
here_or_elsewhere width height marks p x y at long wide high =
    elim (cases_eq (y * width + x) (cell_index width p)) [
      | inl same ↦
          let fits : cell_index width p < length marks = rw long (mul-add-lt (nat_abs p.y) width (nat_abs p.x) height at.y_fits at.x_fits) in
          let both = same_from_place y x (nat_abs p.y) (nat_abs p.x) width wide at.x_fits same in
          let is : is_same_cell (point_at x y) p ≡ true = same_cell x y p at both.1 both.0 in
          rw (same, is, get_or-set_same marks (cell_index width p) true false fits) (sym (or-true _))
      | inr other ↦
          let is : is_same_cell (point_at x y) p ≡ false = other_cell width x y p at other in
          rw (is, get_or-set_other marks (cell_index width p) (y * width + x) true false other) (sym (or-false _))
    ]

pub marks_place : (width height : ℕ) (p : Point) (marks : List Bool) → is_on_board width height p ≡ true → length marks ≡ width * height
    → MarksCell width height p marks (slice_set marks (cell_index width p) true)
marks_place width height p marks on long = record {
  adds = λ x y wide high. here_or_elsewhere width height marks p x y (stands_at width height p on) long wide high;
}

-- a cell off the board is none of its cells
off_board : (width height : ℕ) (p : Point) (x y : ℕ) → is_on_board width height p ≡ false → x < width → y < height
    → is_same_cell (point_at x y) p ≡ false
off_board width height p x y off wide high =
    elim (cases_Bool (is_same_cell (point_at x y) p)) [
      | inl same ↦
          let both = and_both _ _ same in
          let ex : pos x ≡ p.x = int_is _ _ both.0 in
          let ey : pos y ≡ p.y = int_is _ _ both.1 in
          let low : int_lt (pos x) (pos width) ≡ true = lt-ltb x width wide in
          let high : int_lt (pos y) (pos height) ≡ true = lt-ltb y height high in
          let zero_x : int_le (pos 0) (pos x) ≡ true = le-leb 0 x (omega arith) in
          let zero_y : int_le (pos 0) (pos y) ≡ true = le-leb 0 y (omega arith) in
          let on : is_on_board width height (point_at x y) ≡ true = rw (zero_x, zero_y, low, high) refl in
          let here : is_on_board width height p ≡ true = rw (← ex, ← ey) on in
          let wrong : false ≡ true = sym off ∙ here in
          cc
      | inr differ ↦ differ
    ]

pub marks_nothing : (width height : ℕ) (p : Point) (marks : List Bool) → is_on_board width height p ≡ false
    → MarksCell width height p marks marks
marks_nothing width height p marks off = record {
  adds = λ x y wide high. rw (off_board width height p x y off wide high) (sym (or-false _));
}
