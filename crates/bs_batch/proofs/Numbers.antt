-- Numbers of cells: they fit the plane, and cells with one number are one cell.
use Rattle.std.proofs.Common.{◌≡◌, ℕ, ℤ, ◌+◌, ◌*◌, ◌<◌, ◌≤◌, true, pos, negsuc, nat_abs, ◌+ℤ◌, refl, sym, ap, ◌∙◌, arith}
use Rattle.std.specs.Prelude.{int_le}
use Rattle.std.proofs.lemmas.Int.{ints}
use Rattle.std.proofs.lemmas.Nat.{same_from_place}
use Rattle.bs_board.specs.declared.boards.point.Point.{Point}
use Rattle.bs_board.specs.boards.Cell.{is_same_cell}
use Rattle.bs_board.specs.boards.Legal.{is_near}
use Rattle.bs_board.proofs.boards.CellsOnBoard.{same_int}
use Rattle.bs_rules.proofs.CollisionTest.{same_cell}
use Rattle.bs_rules.proofs.Movable.{four_parts}
use Rattle.bs_batch.specs.Numbers.{number_of}

-- a coordinate raised by one
raised : (z : ℤ) (n : ℕ) → int_le (negsuc 0) z ≡ true → int_le z (pos n) ≡ true → (nat_abs (z +ℤ pos 1) < n + 2) × (pos (nat_abs (z +ℤ pos 1)) ≡ z +ℤ pos 1)
raised z n low high = (grind (arith, ints), grind (arith, ints))

-- the column and the row of a cell on the board or next to it, each raised by one
pub record Raised (width height : ℕ) (p : Point) : Type 0 where
  pub column : nat_abs (p.x +ℤ pos 1) < width + 2
  pub row : nat_abs (p.y +ℤ pos 1) < height + 2
  pub x_is : pos (nat_abs (p.x +ℤ pos 1)) ≡ p.x +ℤ pos 1
  pub y_is : pos (nat_abs (p.y +ℤ pos 1)) ≡ p.y +ℤ pos 1

pub near_raised : (width height : ℕ) (p : Point) → is_near width height p ≡ true → Raised width height p
near_raised width height p near =
    let q = four_parts (int_le (negsuc 0) p.x) (int_le p.x (pos width)) (int_le (negsuc 0) p.y) (int_le p.y (pos height)) near in
    let x = raised p.x width q.0 q.1 in
    let y = raised p.y height q.2 q.3 in
    record { column = x.0; row = y.0; x_is = x.1; y_is = y.1 }

pub number_fits : (width height : ℕ) (p : Point) → width ≤ 25 → is_near width height p ≡ true → number_of p < (height + 2) * 32
number_fits width height p narrow near =
    let r = near_raised width height p near in
    let column = r.column in
    let row = r.row in
    omega arith

-- cells of one number are one cell
pub one_number : (width height : ℕ) (p q : Point) → width ≤ 25 → is_near width height p ≡ true → is_near width height q ≡ true
    → number_of p ≡ number_of q → p ≡ q
one_number width height p q narrow near_p near_q e =
    let a = near_raised width height p near_p in
    let b = near_raised width height q near_q in
    let ca = a.column in
    let cb = b.column in
    let both = same_from_place (nat_abs (p.y +ℤ pos 1)) (nat_abs (p.x +ℤ pos 1)) (nat_abs (q.y +ℤ pos 1)) (nat_abs (q.x +ℤ pos 1)) 32 (omega arith) (omega arith) e in
    let ex : p.x +ℤ pos 1 ≡ q.x +ℤ pos 1 = sym a.x_is ∙ ap pos both.1 ∙ b.x_is in
    let ey : p.y +ℤ pos 1 ≡ q.y +ℤ pos 1 = sym a.y_is ∙ ap pos both.0 ∙ b.y_is in
    let x : p.x ≡ q.x = omega (arith, ints) in
    let y : p.y ≡ q.y = omega (arith, ints) in
    let same : is_same_cell p q ≡ true = rw (same_int _ _ x, same_int _ _ y) refl in
    (same_cell p q).0 same
