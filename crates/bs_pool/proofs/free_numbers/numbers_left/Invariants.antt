use Rattle.std.proofs.Common.{◌≡◌, ◌++◌, drop}
use Rattle.bs_pool.specs.inner.FreeNumbers.{still_free}
use Rattle.bs_pool.proofs.free_numbers.numbers_left.Given as goal

abbrev pub invariant-loop-at : goal.invariant-loop-at
invariant-loop-at g l = l.left.items ++ still_free (drop l.at l.low) (drop l.at l.slots) ≡ still_free l.low l.slots
