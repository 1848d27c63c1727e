use Rattle.std.proofs.Common.{◌≡◌, length}
use Rattle.bs_pool.proofs.FreeNumbers.{MarkedBelow}
use Rattle.bs_pool.proofs.free_numbers.mark_free.Given as goal

abbrev pub invariant-loop-number : goal.invariant-loop-number
invariant-loop-number l = (length l.words ≡ length l.fn.words) × MarkedBelow l.words l.owners l.number
