-- Coordinates modulo a side.
use Rattle.std.proofs.Common.{◌≡◌, ℕ, zero, ◌+◌, ◌*◌, ◌%◌, ◌/◌, ◌<◌, ◌≤◌, true, pos, negsuc, nat_abs, ◌+ℤ◌, refl, ap, ◌∙◌, arith}
use Rattle.std.specs.Prelude.{int_le}
use Rattle.std.proofs.lemmas.Int.{ints}
use Rattle.std.proofs.Math.Nat.{mod-eq_of_lt, mod_self}
use Rattle.bs_rules.proofs.Movable.{four_parts}
use Rattle.bs_batch.specs.declared.layout.Settings.{Settings}
use Rattle.bs_batch.specs.inner.Steps.{WrapsCell, WrapsSide}
use Rattle.bs_batch.proofs.Numbers.{near_raised}

below_zero : (n : ℕ) → int_le (negsuc 0) (negsuc n) ≡ true → n ≡ 0
below_zero n low = grind (arith, ints)

at_most : (a n : ℕ) → int_le (pos a) (pos n) ≡ true → a ≤ n
at_most a n high = grind (arith, ints)

plus_one : (a : ℕ) → nat_abs (pos a +ℤ pos 1) ≡ a + 1
plus_one a = refl

from_first : (n : ℕ) → n ≡ 0 → nat_abs (negsuc n +ℤ pos 1) ≡ 0
from_first n e = rw e refl

pub wraps_low : (side raised : ℕ) → raised ≡ 0 → WrapsSide side raised side
wraps_low side raised none (pos a) some low high is = let one = plus_one a in absurd (omega arith)
wraps_low side raised none (negsuc n) some low high is =
    let zeroth : zero % side ≡ zero = mod-eq_of_lt (omega arith) in
    let first : n % side ≡ 0 = ap (λ m. m % side) (below_zero n low) ∙ zeroth in
    omega arith

pub wraps_high : (side raised : ℕ) → side < raised → WrapsSide side raised 1
wraps_high side raised past (pos a) some low high is =
    let one = plus_one a in
    let most = at_most a side high in
    let last : a ≡ side = omega arith in
    let none : a % side ≡ 0 = ap (λ m. m % side) last ∙ mod_self side in
    omega arith
wraps_high side raised past (negsuc n) some low high is =
    let first = from_first n (below_zero n low) in
    absurd (omega arith)

pub wraps_between : (side raised : ℕ) → (raised ≡ 0 → ⊥) → raised ≤ side → WrapsSide side raised raised
wraps_between side raised some_column within (pos a) some low high is =
    let one = plus_one a in
    let stays : a % side ≡ a = mod-eq_of_lt (omega arith) in
    omega arith
wraps_between side raised some_column within (negsuc n) some low high is =
    let first = from_first n (below_zero n low) in
    absurd (omega arith)

pub wraps_cell : (s : Settings) (cell column row : ℕ) → WrapsSide s.width (cell % 32) column → WrapsSide s.height (cell / 32) row → WrapsCell s cell (row * 32 + column)
wraps_cell s cell column row wraps_column wraps_row p sides near is =
    let r = near_raised s.width s.height p near in
    let q = four_parts (int_le (negsuc 0) p.x) (int_le p.x (pos s.width)) (int_le (negsuc 0) p.y) (int_le p.y (pos s.height)) near in
    let narrow = sides.narrow in
    let few = r.column in
    let x : cell % 32 ≡ nat_abs (p.x +ℤ pos 1) = omega arith in
    let y : cell / 32 ≡ nat_abs (p.y +ℤ pos 1) = omega arith in
    let column_is = wraps_column p.x sides.wide q.0 q.1 x in
    let row_is = wraps_row p.y sides.high q.2 q.3 y in
    rw (column_is, row_is) refl
