-- A plane in which the contents of one cell change.
use Rattle.std.proofs.Common.{◌≡◌, ℕ, ◌+◌, ◌-◌, ◌*◌, ◌<◌, Bool, true, false, List, length, set, get_or, ℤ, pos, nat_abs, refl, sym, ap, ◌∙◌, arith, inl, inr, length-set}
use Rattle.std.proofs.lemmas.Bool.{cases_Bool, cases_eq}
use Rattle.std.proofs.lemmas.Nat.{same_from_place}
use Rattle.std.proofs.lemmas.List.{get_or_default, get_or-set_same, get_or-set_other}
use Rattle.bs_board.specs.declared.boards.point.Point.{Point}
use Rattle.bs_board.specs.boards.Cell.{cell_index, is_on_board, is_same_cell}
use Rattle.bs_board.proofs.boards.CellsOnBoard.{stands_at, same_int, int_is}
use Rattle.bs_board.proofs.Chains.{and_both}
use Rattle.bs_food.specs.Free.{point_at}
use Rattle.bs_food.proofs.MarkedCells.{place_fits}
use Rattle.bs_plane.specs.declared.cell.Cell.{Cell}
use Rattle.bs_plane.specs.declared.plane.Plane.{Plane}
use Rattle.bs_plane.specs.Plane.{Changes, HasCells, Shows, TakesPart, nothing, with_food, with_part}
use Rattle.bs_plane.specs.inner.Plane.{IsPlace, with_hazard}

abbrev pub point_of : ℤ → ℤ → Point
point_of x y = record { x = x; y = y }

pub same_point : (p q : Point) → is_same_cell p q ≡ true → p ≡ q
same_point p q same =
    let both = and_both _ _ same in
    ap (λ x. point_of x p.y) (int_is p.x q.x both.0) ∙ ap (λ y. point_of q.x y) (int_is p.y q.y both.1)

pub itself : (p : Point) → is_same_cell p p ≡ true
itself p =
    let x = same_int p.x p.x refl in
    let y = same_int p.y p.y refl in
    rw (x, y) refl

-- a cell of the board by its column and row
pub board_cell : (width height : ℕ) (p : Point) → is_on_board width height p ≡ true → point_at (nat_abs p.x) (nat_abs p.y) ≡ p
board_cell width height p on =
    let at = stands_at width height p on in
    ap (λ x. point_of x (pos (nat_abs p.y))) (sym at.x_is) ∙ ap (λ y. point_of p.x y) (sym at.y_is)

pub there_is : (width height : ℕ) (on : Point → Cell) (cells : List Cell) (p : Point) → is_on_board width height p ≡ true
    → HasCells width height on cells → get_or cells (cell_index width p) nothing ≡ on p
there_is width height on cells p inside has =
    let at = stands_at width height p inside in
    has.each (nat_abs p.x) (nat_abs p.y) at.x_fits at.y_fits ∙ ap on (board_cell width height p inside)

apart : (width x y : ℕ) (p : Point) → (y * width + x ≡ cell_index width p → ⊥) → is_same_cell (point_at x y) p ≡ false
apart width x y p other =
    elim (cases_Bool (is_same_cell (point_at x y) p)) [
      | inl same ↦ absurd (other (ap (cell_index width) (same_point (point_at x y) p same)))
      | inr differ ↦ differ
    ]

-- the contents of one cell are written, those of the others stay
pub after_write : (width height : ℕ) (on on' : Point → Cell) (cells : List Cell) (p : Point) (new : Cell) → is_on_board width height p ≡ true
    → HasCells width height on cells → new ≡ on' p → ((q : Point) → is_same_cell q p ≡ false → on' q ≡ on q)
    → HasCells width height on' (set cells (cell_index width p) new)
after_write width height on on' cells p new inside has here elsewhere =
    let at = stands_at width height p inside in
    let kept = length-set cells (cell_index width p) new in
    let room = has.room in
    let fits = place_fits width height p inside in
    let within : cell_index width p < length cells = rw room fits in
    record {
      room = kept ∙ room;
      each = λ x y wide high. elim (cases_eq (y * width + x) (cell_index width p)) [
        | inl same ↦
            let both = same_from_place y x (nat_abs p.y) (nat_abs p.x) width wide at.x_fits same in
            let is : point_at x y ≡ p = ap (λ n. point_at n y) both.1 ∙ ap (λ n. point_at (nat_abs p.x) n) both.0 ∙ board_cell width height p inside in
            ap (λ n. get_or (set cells (cell_index width p) new) n nothing) same ∙ get_or-set_same cells (cell_index width p) new nothing within ∙ here ∙ ap on' (sym is)
        | inr other ↦
            get_or-set_other cells (cell_index width p) (y * width + x) new nothing other ∙ has.each x y wide high ∙ sym (elsewhere (point_at x y) (apart width x y p other))
      ];
    }

-- the same contents
pub same_cells : (width height : ℕ) (on on' : Point → Cell) (cells : List Cell) → ((p : Point) → on p ≡ on' p) → HasCells width height on cells → HasCells width height on' cells
same_cells width height on on' cells same has = record { room = has.room; each = λ x y wide high. has.each x y wide high ∙ same (point_at x y) }

module _ (cell : Point) (old new : Plane) (place : ℕ) (there : Cell) (at : IsPlace old cell place) (read : there ≡ get_or old.cells.items place there)
    (width : new.width ≡ old.width) (height : new.height ≡ old.height) where
  was : (on : Point → Cell) → Shows on old → there ≡ on cell
  was on shows =
      read ∙ get_or_default old.cells.items place there nothing at.within ∙ ap (λ n. get_or old.cells.items n nothing) at.index
      ∙ there_is old.width old.height on old.cells.items cell at.on shows

  written : (on on' : Point → Cell) (now : Cell) → new.cells.items ≡ set old.cells.items place now → Shows on old → now ≡ on' cell
      → ((q : Point) → is_same_cell q cell ≡ false → on' q ≡ on q) → Shows on' new
  written on on' now is shows here elsewhere =
      let written_at = after_write old.width old.height on on' old.cells.items cell now at.on shows here elsewhere in
      let index = at.index in
      rw (is, width, height, index) written_at

  pub counts_more : new.cells.items ≡ set old.cells.items place (record there { parts = there.parts + 1 }) → Changes (with_part cell) old new
  counts_more is = record {
    width = width;
    height = height;
    cells = λ on shows.
        let more : record there { parts = there.parts + 1 } ≡ with_part cell on cell = rw (itself cell, ← was on shows) refl in
        written on (with_part cell on) (record there { parts = there.parts + 1 }) is shows more (λ q other. rw other refl);
  }

  pub counts_less : new.cells.items ≡ set old.cells.items place (record there { parts = there.parts - 1 }) → TakesPart cell old new
  counts_less is = record {
    width = width;
    height = height;
    cells = λ on shows.
        let before : there ≡ record (on cell) { parts = (on cell).parts + 1 } = was (with_part cell on) shows ∙ rw (itself cell) refl in
        let one : (on cell).parts + 1 - 1 ≡ (on cell).parts = omega arith in
        let less : record there { parts = there.parts - 1 } ≡ on cell = ap (λ (c : Cell). record c { parts = c.parts - 1 }) before ∙ ap (λ n. record (on cell) { parts = n }) one in
        written (with_part cell on) on (record there { parts = there.parts - 1 }) is shows less (λ q other. rw other refl);
  }

  pub writes_food : (food : Bool) → new.cells.items ≡ set old.cells.items place (record there { food = food }) → Changes (with_food cell food) old new
  writes_food food is = record {
    width = width;
    height = height;
    cells = λ on shows.
        let now : record there { food = food } ≡ with_food cell food on cell = rw (itself cell, ← was on shows) refl in
        written on (with_food cell food on) (record there { food = food }) is shows now (λ q other. rw other refl);
  }

  pub writes_hazard : new.cells.items ≡ set old.cells.items place (record there { hazard = true }) → Changes (with_hazard cell) old new
  writes_hazard is = record {
    width = width;
    height = height;
    cells = λ on shows.
        let now : record there { hazard = true } ≡ with_hazard cell on cell = rw (itself cell, ← was on shows) refl in
        written on (with_hazard cell on) (record there { hazard = true }) is shows now (λ q other. rw other refl);
  }
