use Rattle.std.proofs.Common.{◌≡◌, ◌+◌, length}
use Rattle.bs_pool.proofs.slot.new_blocks.Given as goal

abbrev pub invariant-loop-left : goal.invariant-loop-left
invariant-loop-left g l = l.left + length l.blocks.items ≡ l.n

abbrev pub decreases-loop-left : goal.decreases-loop-left
decreases-loop-left g l = l.left
