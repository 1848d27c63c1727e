-- A list for each so far.
use Rattle.std.proofs.Common.{◌≡◌, ◌≤◌, length}
use Rattle.bs_workers.proofs.player.Player.shares_of.Given as goal

abbrev pub invariant-loop : goal.invariant-loop
invariant-loop g l = (length l.lots.items ≡ l.counter) × (length l.free.items ≤ length l.fn.free.items)
