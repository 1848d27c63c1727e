-- The leaves so far.
use Rattle.std.proofs.Common.{◌≡◌, length}
use Rattle.bs_workers.proofs.ListedStays.{HaveLeftSo}
use Rattle.bs_workers.proofs.stays.leaves_of.Given as goal

abbrev pub invariant-loop-act : goal.invariant-loop-act
invariant-loop-act l = HaveLeftSo l.acts l.act-index l.leaves.items × (length l.leaves.items ≡ l.stays)
