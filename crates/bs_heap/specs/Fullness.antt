-- How full the blocks of a packing are, which bounds their number.
use Rattle.std.specs.Prelude.{ℕ, ◌-◌, ◌≤◌, ◌<◌, drop, sum_by, All}
use Rattle.bs_heap.specs.declared.heap.TheConstants.{MOST_RECORD_BYTES}
use Rattle.bs_heap.specs.Packing.{Packing, uses}

-- there are no more blocks than the charge needs: each closed block had no room for a record, and
-- only the oldest may hold bytes that are no longer charged
pub record AreFull (cap charge : ℕ) (packing : Packing) : Type 0 where
  pub closed : All (λ u. cap - MOST_RECORD_BYTES < u.used) packing.closed
  pub charged : sum_by (λ u. u.used) (drop 1 (uses packing)) ≤ charge
