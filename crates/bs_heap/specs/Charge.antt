-- What records are charged, and how many blocks a quota can need.
use Rattle.std.specs.Prelude.{ℕ, ◌+◌, ◌-◌, ◌/◌, List, length, sum_by}
use Rattle.bs_block.specs.Rounding.{rounded}
use Rattle.bs_heap.specs.declared.heap.TheConstants.{MOST_RECORD_BYTES}

-- the sum of the rounded sizes
abbrev pub charge_of : List (List ℕ) → ℕ
charge_of = sum_by (λ bytes. rounded (length bytes))

-- the most blocks that records of one tag can take within the quota
abbrev pub blocks_for : ℕ → ℕ → ℕ
blocks_for cap quota = quota / (cap - MOST_RECORD_BYTES) + 2
