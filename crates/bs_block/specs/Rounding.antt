-- Sizes in a block are rounded up to a multiple of its unit.
use Rattle.std.specs.Prelude.{◌≡◌, ℕ, ◌+◌, ◌-◌, ◌*◌, ◌/◌, ◌%◌, ◌≤◌}
use Rattle.bs_block.specs.declared.rounding.TheConstants.{UNIT}

-- the least multiple of the unit not below n
unfoldable pub rounded : ℕ → ℕ
rounded n = (n + (UNIT - 1)) / UNIT * UNIT

-- m is a multiple of unit, not below n, and no other is less
abbrev pub IsLeastMultiple : ℕ → ℕ → ℕ → Type 0
IsLeastMultiple unit n m = (m % unit ≡ 0) × (n ≤ m) × ((k : ℕ) → n ≤ k * unit → m ≤ k * unit)
