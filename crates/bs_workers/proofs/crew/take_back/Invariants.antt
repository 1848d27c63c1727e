-- No block is lost.
use Rattle.std.proofs.Common.{◌≤◌, length}
use Rattle.bs_workers.proofs.crew.take_back.Given as goal

abbrev pub invariant-loop-lot : goal.invariant-loop-lot
invariant-loop-lot g l = length l.fn.free.items ≤ length l.free.items
