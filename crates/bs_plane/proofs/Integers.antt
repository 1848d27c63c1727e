-- Coordinates that are not raised.
use Rattle.std.proofs.Common.{◌≡◌, ℤ, pos, nat_abs, ◌+ℤ◌, arith}
use Rattle.std.specs.Prelude.{◌≤ℤ◌}
use Rattle.std.proofs.lemmas.Int.{ints}
use Rattle.bs_board.proofs.records.Fields.{raised_again}

pub not_raised : (z : ℤ) → pos 0 ≤ℤ (z +ℤ pos 0) → pos (nat_abs (z +ℤ pos 0)) ≡ z
not_raised z low = let again = raised_again z 0 low in omega (arith, ints)
