-- When a write failed.
use Rattle.std.specs.Prelude.{ℕ, Bool, true, ◌&&◌, nat_eq, nat_lt, Result, Ok, Err}

-- an error, or no byte taken of some
abbrev pub is_failure : {E : Type 0} → Result ℕ E → ℕ → Bool
is_failure (Ok count) size = nat_eq count 0 && nat_lt 0 size
is_failure (Err error) size = true
