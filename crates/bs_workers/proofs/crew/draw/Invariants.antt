-- As many blocks as iterations were drawn, and no block is lost.
use Rattle.std.proofs.Common.{◌≡◌, ◌+◌, length}
use Rattle.bs_workers.proofs.crew.draw.Given as goal

abbrev pub invariant-loop : goal.invariant-loop
invariant-loop g l = (length l.drawn.items ≡ l.counter) × (length l.drawn.items + length l.free.items ≡ length l.fn.free.items)
