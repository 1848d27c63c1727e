-- What `add` returns, and the heap and the pool after it.
use Rattle.std.specs.Prelude.{◌≡◌, ℕ, ◌+◌, ◌≤◌, ◌<◌, if◌then◌else◌, List, length, Result, MatchResult}
use Rattle.bs_block.specs.Rounding.{rounded}
use Rattle.bs_pool.specs.Ledger.{Ledger, drawn}
use Rattle.bs_heap.specs.Charge.{charge_of}
use Rattle.bs_heap.specs.Packing.{fits}
use Rattle.bs_heap.specs.Heap.{Heap, with_record}
use Rattle.bs_heap.specs.HeldBlocks.{next_number}

-- the charge with the record
abbrev pub charge_with : List ℕ → Heap → ℕ
charge_with bytes heap = charge_of heap.records + rounded (length bytes)

-- the heap with the record
abbrev pub heap_with : ℕ → Ledger → List ℕ → Heap → Heap
heap_with cap pool bytes heap = with_record cap (next_number pool) bytes heap

-- the pool, from which a block is drawn if the record does not fit into the current one
abbrev pub pool_with : ℕ → Heap → List ℕ → Ledger → Ledger
pool_with cap heap bytes pool = if fits cap (rounded (length bytes)) heap.packing.current then pool else drawn heap.tag (next_number pool) pool

-- the record is added if the charge with it is within the quota; else heap and pool are unchanged
abbrev pub AddsRecord : {U E : Type 0} → ℕ → List ℕ → Heap → Ledger → Result U E → Heap → Ledger → Type 0
AddsRecord cap bytes heap pool answer heap' pool' =
    MatchResult answer
    (λ _. (charge_with bytes heap ≤ heap.quota) × (heap' ≡ heap_with cap pool bytes heap) × (pool' ≡ pool_with cap heap bytes pool))
    (λ _. (heap.quota < charge_with bytes heap) × (heap' ≡ heap) × (pool' ≡ pool))
