-- What private contracts add to specs/Bytes.
use Rattle.std.specs.Prelude.{ℕ, ◌+◌, List, ◌++◌, take, drop, replicate}
use Rattle.std.specs.List.{refill}
use Rattle.bs_block.specs.Bytes.{padded, range}

-- xs, with ws in place of the n bytes from `at` on; a ws of another length is cut to n bytes, or
-- filled up with the old bytes
abbrev pub with_range : List ℕ → ℕ → ℕ → List ℕ → List ℕ
with_range xs at n ws = take at xs ++ (refill n (range at n xs) ws ++ drop (at + n) xs)

-- xs, then ws, cut or filled with zeros to n bytes, then zeros up to the rounded size
abbrev pub extended : List ℕ → ℕ → List ℕ → List ℕ
extended xs n ws = xs ++ padded (refill n (replicate n 0) ws)
