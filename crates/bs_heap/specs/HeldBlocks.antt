-- Which blocks of a pool are a heap's.
use Rattle.std.specs.Prelude.{◌≡◌, ◌≢◌, ℕ, List, [], ◌∷◌, length, unwrap_or, All, AllPairs}
use Rattle.bs_pool.specs.Ledger.{Ledger, Owns, held, least_free, given}
use Rattle.bs_heap.specs.Packing.{numbers_of}
use Rattle.bs_heap.specs.Heap.{Heap}

-- the tag owns the blocks of these numbers, which are distinct
pub record AreOwned (tag : ℕ) (numbers : List ℕ) (pool : Ledger) : Type 0 where
  pub each : All (λ number. Owns tag number pool) numbers
  pub once : AllPairs (λ m n. m ≢ n) numbers

-- the tag owns the blocks of these numbers and no others
pub record Holds (tag : ℕ) (numbers : List ℕ) (pool : Ledger) : Type 0 where
  pub owned : AreOwned tag numbers pool
  pub all : held tag pool ≡ length numbers

-- the tag of the heap owns the heap's blocks in that pool and no others
abbrev pub IsKeptIn : Heap → Ledger → Type 0
IsKeptIn heap pool = Holds heap.tag (numbers_of heap.packing) pool

-- the number that the pool draws next
abbrev pub next_number : Ledger → ℕ
next_number pool = unwrap_or (least_free pool) 0

-- the pool once the blocks of these numbers are given back
abbrev pub all_given : List ℕ → Ledger → Ledger
all_given [] pool = pool
all_given (number ∷ numbers) pool = all_given numbers (given number pool)

-- the other tags own the same blocks in both pools, and the reservations are the same
pub record LeavesOthers (tag : ℕ) (old new : Ledger) : Type 0 where
  pub holds : (other : ℕ) (numbers : List ℕ) → other ≢ tag → Holds other numbers old → Holds other numbers new
  pub reservations : new.reservations ≡ old.reservations
