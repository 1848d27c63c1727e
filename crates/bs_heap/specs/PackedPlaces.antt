-- The places of a packing share no byte.
use Rattle.std.specs.Prelude.{◌≡◌, ◌≢◌, ◌+◌, ◌≤◌, List, map, All, AllPairs, Contains}
use Rattle.bs_heap.specs.Packing.{Use, Place, Packing, uses, numbers_of, last_alone, packing_of_last}

-- if both are in one block, q begins after the end of p
abbrev pub IsBefore : Place → Place → Type 0
IsBefore p q = p.number ≡ q.number → p.at + p.len ≤ q.at

-- the place is in one of the blocks, within its used bytes
pub record IsInside (blocks : List Use) (p : Place) : Type 0 where
  pub block : Contains (map (λ u. u.number) blocks) p.number
  pub within : All (λ u. u.number ≡ p.number → p.at + p.len ≤ u.used) blocks

-- no two places share a byte
pub record AreApart (packing : Packing) : Type 0 where
  -- no block occurs twice
  pub once : AllPairs (λ m n. m ≢ n) (numbers_of packing)
  pub inside : All (IsInside (uses packing)) packing.places
  -- each place is before the later ones
  pub before : AllPairs IsBefore packing.places
  -- the last one is in the current block
  pub last : All (λ p. Contains (numbers_of (packing_of_last packing)) p.number) (last_alone packing.places)
