-- Sizes, and the blocks that are reserved for them.
use Rattle.std.proofs.Common.{ℕ, ◌≤◌, ◌<◌, Option, Some, None, IsSome, unwrap_or, refl, arith}
use Rattle.std.specs.Prelude.{option_map}
use Rattle.bs_block.specs.Rounding.{rounded}
use Rattle.bs_pool.specs.Ledger.{Ledger, reserved, reservation_of}
use Rattle.bs_pool.specs.declared.reservation.Reservation.{Reservation}
use Rattle.bs_heap.specs.declared.heap.TheConstants.{MOST_RECORD_BYTES}

-- the most that a record may have is a multiple of 16
pub small_enough : (n : ℕ) → n ≤ MOST_RECORD_BYTES → rounded n ≤ MOST_RECORD_BYTES
unfolding rounded
small_enough n le = omega (arith, le)

some_blocks : (o : Option Reservation) → 0 < unwrap_or (option_map (λ r. r.blocks) o) 0 → IsSome o
some_blocks None more = absurd (omega (arith, more))
some_blocks (Some r) more = refl

-- a tag that may own blocks has a reservation
pub has_reservation : (tag : ℕ) (pool : Ledger) → 0 < reserved tag pool → IsSome (reservation_of tag pool)
has_reservation tag pool more = some_blocks (reservation_of tag pool) more
