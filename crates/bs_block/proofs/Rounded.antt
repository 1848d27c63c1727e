-- Lemmas on `rounded`.
use Rattle.std.proofs.Common.{◌≡◌, ℕ, ◌%◌, ◌≤◌, arith}
use Rattle.bs_block.specs.Rounding.{rounded}

pub rounded_above : (n : ℕ) → n ≤ rounded n
unfolding rounded
rounded_above n = omega arith
