-- A block as the list of its bytes.
use Rattle.std.specs.Prelude.{◌≡◌, ℕ, ◌+◌, ◌-◌, ◌%◌, ◌≤◌, ◌<◌, List, ◌++◌, length, take, drop, replicate, Option, MatchOption}
use Rattle.bs_block.specs.Rounding.{rounded}
use Rattle.bs_block.specs.declared.block.TheConstants.{MOST_CAPACITY}
use Rattle.bs_block.specs.declared.rounding.TheConstants.{UNIT}

-- the capacities that a block may have
abbrev pub IsCapacity : ℕ → Type 0
IsCapacity cap = (cap % UNIT ≡ 0) × (UNIT ≤ cap) × (cap ≤ MOST_CAPACITY)

-- n bytes, rounded up, fit after xs in a block of `most` bytes
abbrev pub HasRoom : ℕ → List ℕ → ℕ → Type 0
HasRoom most xs n = length xs + rounded n ≤ most

-- n bytes, rounded up, do not fit after xs
abbrev pub Overflows : ℕ → List ℕ → ℕ → Type 0
Overflows most xs n = most < length xs + rounded n

-- ws, and zeros up to the rounded size
abbrev pub padded : List ℕ → List ℕ
padded ws = ws ++ replicate (rounded (length ws) - length ws) 0

-- the n bytes from at on
abbrev pub range : ℕ → ℕ → List ℕ → List ℕ
range at n xs = take n (drop at xs)

-- what `push` returns, and the bytes after it
abbrev pub Pushes : ℕ → List ℕ → List ℕ → Option ℕ → List ℕ → Type 0
Pushes most xs bytes answer ys =
    MatchOption answer
    (Overflows most xs (length bytes) × (ys ≡ xs))
    (λ at. HasRoom most xs (length bytes) × (at ≡ length xs) × (ys ≡ xs ++ padded bytes))
