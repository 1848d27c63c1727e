-- A list for each so far.
use Rattle.std.proofs.Common.{◌≡◌, ◌≤◌, length}
use Rattle.bs_workers.proofs.player.Player.lots_of.Given as goal

abbrev pub invariant-loop-row : goal.invariant-loop-row
invariant-loop-row g l = (length l.lots.items ≡ l.row-index) × (length l.free.items ≤ length l.fn.free.items)
