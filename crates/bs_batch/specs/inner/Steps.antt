-- The steps of a motion.
use Rattle.std.specs.Prelude.{◌≡◌, ℕ, ◌+◌, ◌%◌, ◌≤◌, true, List, ◌∷◌, nat_abs, pos, negsuc, ◌+ℤ◌, int_le, Some, ℤ}
use Rattle.std.specs.Int.{int_rem_euclid}
use Rattle.bs_board.specs.declared.boards.point.Point.{Point}
use Rattle.bs_board.specs.boards.Cell.{is_on_board}
use Rattle.bs_board.specs.boards.Legal.{is_near}
use Rattle.bs_rules.specs.Motion.{direction_taken, neighbor, on_torus, one_step, onward}
use Rattle.bs_batch.specs.declared.layout.Settings.{Settings}
use Rattle.bs_batch.specs.Directions.{direction_of, given_by}
use Rattle.bs_batch.specs.Numbers.{HasSides, IsOn, number_of, sides_of}

-- a coordinate raised by one, modulo the side
abbrev pub WrapsSide : ℕ → ℕ → ℕ → Type 0
WrapsSide side raised result =
    (z : ℤ) → 1 ≤ side → int_le (negsuc 0) z ≡ true → int_le z (pos side) ≡ true → raised ≡ nat_abs (z +ℤ pos 1)
    → result ≡ nat_abs (int_rem_euclid z (pos side) +ℤ pos 1)

-- the number of the cell modulo the sides
abbrev pub WrapsCell : Settings → ℕ → ℕ → Type 0
WrapsCell s cell result =
    (p : Point) → HasSides s → is_near s.width s.height p ≡ true → cell ≡ number_of p
    → result ≡ number_of (on_torus (Some (s.width, s.height)) p)

-- what a step adds to a number, modulo 2^16
abbrev pub StepsBy : ℕ → ℕ → Type 0
StepsBy direction offset =
    (p : Point) → is_on_board 25 25 p ≡ true → (number_of p + offset) % 65536 ≡ number_of (one_step p (direction_of direction))

-- the number of the cell one step further
abbrev pub StepsCell : Settings → ℕ → ℕ → ℕ → Type 0
StepsCell s cell direction result =
    (p : Point) → HasSides s → IsOn s p → cell ≡ number_of p → result ≡ number_of (neighbor (sides_of s) p (direction_of direction))

-- straight on, for a body that begins with these two parts
abbrev pub GoesOn : Settings → ℕ → ℕ → ℕ → Type 0
GoesOn s head second result =
    (h t : Point) (rest : List Point) → HasSides s → IsOn s h → IsOn s t → head ≡ number_of h → second ≡ number_of t
    → direction_of result ≡ onward (sides_of s) (h ∷ t ∷ rest)

-- the given direction, else straight on
abbrev pub TakesDirection : Settings → ℕ → ℕ → ℕ → ℕ → Type 0
TakesDirection s head second given result =
    (h t : Point) (rest : List Point) → HasSides s → IsOn s h → IsOn s t → head ≡ number_of h → second ≡ number_of t
    → direction_of result ≡ direction_taken (sides_of s) (given_by given) (h ∷ t ∷ rest)
