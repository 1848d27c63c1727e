-- The places of a block: each is unwritten or holds a byte.
use Rattle.std.specs.Prelude.{◌≡◌, ℕ, ◌+◌, ◌≤◌, List, [], ◌∷◌, ◌++◌, map, length, take, drop, Option, Some, None}
use denote.RawPtr.{Ptr, block_ptr, block_of, count_of}

-- it is not null
abbrev pub IsThere : Ptr → Type 0
IsThere p = p ≡ block_ptr (block_of p) (count_of p)

-- the bytes that were written
abbrev pub somes : List (Option ℕ) → List ℕ
somes [] = []
somes (None ∷ cs) = somes cs
somes (Some x ∷ cs) = x ∷ somes cs

-- the n places from the place at on hold the bytes
abbrev pub HoldsBytes : List (Option ℕ) → ℕ → ℕ → List ℕ → Type 0
HoldsBytes cs at n xs = (at + n ≤ length cs) × (take n (drop at cs) ≡ map Some xs)

-- the n places from the place at on hold bytes
abbrev pub IsRun : List (Option ℕ) → ℕ → ℕ → Type 0
IsRun cs at n = (xs : List ℕ) × HoldsBytes cs at n xs

-- cs, with ws in the n places from the place at on
abbrev pub spliced : List (Option ℕ) → ℕ → ℕ → List ℕ → List (Option ℕ)
spliced cs at n ws = take at cs ++ (map Some ws ++ drop (at + n) cs)
