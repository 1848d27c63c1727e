-- The step of a cell and of its number.
use Rattle.std.proofs.Common.{◌≡◌, ℕ, ℤ, ◌%◌, ◌<◌, ◌≤◌, true, pos, negsuc, ◌+ℤ◌, ◌-ℤ◌, Some, arith, inl, inr}
use Rattle.std.specs.Prelude.{int_le, int_lt, ◌==◌}
use Rattle.std.specs.Int.{int_rem_euclid}
use Rattle.std.proofs.lemmas.Bool.{cases_Bool, eqb-true, eq-eqb}
use Rattle.std.proofs.lemmas.Int.{ints}
use Rattle.bs_board.specs.declared.boards.point.Point.{Point}
use Rattle.bs_board.specs.declared.boards.point.Direction.{Direction}
use Rattle.bs_board.specs.declared.boards.point.Direction.TheVariants.{Up, Down, Left, Right}
use Rattle.bs_board.specs.boards.Cell.{is_on_board}
use Rattle.bs_board.specs.boards.Legal.{is_near}
use Rattle.bs_rules.specs.Motion.{neighbor, on_torus, one_step}
use Rattle.bs_rules.proofs.Movable.{four_parts, four_from}
use Rattle.bs_batch.specs.declared.layout.Settings.{Settings}
use Rattle.bs_batch.specs.Directions.{direction_of}
use Rattle.bs_batch.specs.Numbers.{HasSides, IsOn, number_of, sides_of}
use Rattle.bs_batch.specs.inner.Steps.{StepsCell, WrapsCell}

less : (z : ℤ) (n : ℕ) → int_le (pos 0) z ≡ true → int_lt z (pos n) ≡ true → (int_le (negsuc 0) (z -ℤ pos 1) ≡ true) × (int_le (z -ℤ pos 1) (pos n) ≡ true)
less z n low high = (grind (arith, ints), grind (arith, ints))

more : (z : ℤ) (n : ℕ) → int_le (pos 0) z ≡ true → int_lt z (pos n) ≡ true → (int_le (negsuc 0) (z +ℤ pos 1) ≡ true) × (int_le (z +ℤ pos 1) (pos n) ≡ true)
more z n low high = (grind (arith, ints), grind (arith, ints))

same : (z : ℤ) (n : ℕ) → int_le (pos 0) z ≡ true → int_lt z (pos n) ≡ true → (int_le (negsuc 0) z ≡ true) × (int_le z (pos n) ≡ true)
same z n low high = (grind (arith, ints), grind (arith, ints))

wider : (z : ℤ) (n : ℕ) → n ≤ 25 → int_lt z (pos n) ≡ true → int_lt z (pos 25) ≡ true
wider z n few high = grind (arith, ints)

near_of : (w h : ℕ) (p : Point) → (int_le (negsuc 0) p.x ≡ true) × (int_le p.x (pos w) ≡ true) → (int_le (negsuc 0) p.y ≡ true) × (int_le p.y (pos h) ≡ true)
    → is_near w h p ≡ true
near_of w h p x y = four_from (int_le (negsuc 0) p.x) (int_le p.x (pos w)) (int_le (negsuc 0) p.y) (int_le p.y (pos h)) x.0 x.1 y.0 y.1

pub on_largest : (s : Settings) (p : Point) → HasSides s → IsOn s p → is_on_board 25 25 p ≡ true
on_largest s p sides on =
    let q = four_parts (int_le (pos 0) p.x) (int_lt p.x (pos s.width)) (int_le (pos 0) p.y) (int_lt p.y (pos s.height)) on in
    four_from (int_le (pos 0) p.x) (int_lt p.x (pos 25)) (int_le (pos 0) p.y) (int_lt p.y (pos 25)) q.0 (wider p.x s.width sides.narrow q.1) q.2 (wider p.y s.height sides.low q.3)

pub near_on : (s : Settings) (p : Point) → IsOn s p → is_near s.width s.height p ≡ true
near_on s p on =
    let q = four_parts (int_le (pos 0) p.x) (int_lt p.x (pos s.width)) (int_le (pos 0) p.y) (int_lt p.y (pos s.height)) on in
    near_of s.width s.height p (same p.x s.width q.0 q.1) (same p.y s.height q.2 q.3)

pub near_step : (s : Settings) (p : Point) (d : Direction) → IsOn s p → is_near s.width s.height (one_step p d) ≡ true
near_step s p d on =
    let q = four_parts (int_le (pos 0) p.x) (int_lt p.x (pos s.width)) (int_le (pos 0) p.y) (int_lt p.y (pos s.height)) on in
    elim d as (λ d. is_near s.width s.height (one_step p d) ≡ true) [
      | Up ↦ near_of s.width s.height (one_step p Up) (same p.x s.width q.0 q.1) (more p.y s.height q.2 q.3)
      | Down ↦ near_of s.width s.height (one_step p Down) (same p.x s.width q.0 q.1) (less p.y s.height q.2 q.3)
      | Left ↦ near_of s.width s.height (one_step p Left) (less p.x s.width q.0 q.1) (same p.y s.height q.2 q.3)
      | Right ↦ near_of s.width s.height (one_step p Right) (more p.x s.width q.0 q.1) (same p.y s.height q.2 q.3)
    ]

-- a coordinate that is next to the board, modulo the side
within : (z : ℤ) (n : ℕ) → 1 ≤ n → int_le (negsuc 0) z ≡ true → int_le z (pos n) ≡ true
    → (int_le (negsuc 0) (int_rem_euclid z (pos n)) ≡ true) × (int_le (int_rem_euclid z (pos n)) (pos n) ≡ true)
within (pos a) n some low high = let few : a % n < n = omega arith in (grind (arith, ints), grind (arith, ints))
within (negsuc a) n some low high = (grind (arith, ints), grind (arith, ints))

near_torus : (s : Settings) (p : Point) → HasSides s → is_near s.width s.height p ≡ true → is_near s.width s.height (on_torus (Some (s.width, s.height)) p) ≡ true
near_torus s p sides near =
    let q = four_parts (int_le (negsuc 0) p.x) (int_le p.x (pos s.width)) (int_le (negsuc 0) p.y) (int_le p.y (pos s.height)) near in
    near_of s.width s.height (on_torus (Some (s.width, s.height)) p) (within p.x s.width sides.wide q.0 q.1) (within p.y s.height sides.high q.2 q.3)

pub near_neighbor : (s : Settings) (p : Point) (d : Direction) → HasSides s → IsOn s p → is_near s.width s.height (neighbor (sides_of s) p d) ≡ true
near_neighbor s p d sides on =
    let near = near_step s p d on in
    elim (cases_Bool (s.mode == 3)) [
      | inl wrapped ↦ rw wrapped (near_torus s (one_step p d) sides near)
      | inr plain ↦ rw plain near
    ]

pub steps_wrapped : (s : Settings) (cell direction next result : ℕ) → s.mode ≡ 3
    → ((p : Point) → is_on_board 25 25 p ≡ true → cell ≡ number_of p → next ≡ number_of (one_step p (direction_of direction)))
    → WrapsCell s next result → StepsCell s cell direction result
steps_wrapped s cell direction next result mode step wraps p sides on is =
    let wrapped : (s.mode == 3) ≡ true = eq-eqb s.mode 3 mode in
    let moved = step p (on_largest s p sides on) is in
    rw wrapped (wraps (one_step p (direction_of direction)) sides (near_step s p (direction_of direction) on) moved)

pub steps_plain : (s : Settings) (cell direction next : ℕ) → (s.mode ≡ 3 → ⊥)
    → ((p : Point) → is_on_board 25 25 p ≡ true → cell ≡ number_of p → next ≡ number_of (one_step p (direction_of direction)))
    → StepsCell s cell direction next
steps_plain s cell direction next other step p sides on is =
    let moved = step p (on_largest s p sides on) is in
    elim (cases_Bool (s.mode == 3)) [
      | inl wrapped ↦ absurd (other (eqb-true s.mode 3 wrapped))
      | inr plain ↦ rw plain moved
    ]
