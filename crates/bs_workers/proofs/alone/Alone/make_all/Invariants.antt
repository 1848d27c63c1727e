-- The acts so far are made.
use Rattle.std.proofs.Common.{◌≡◌, take}
use Rattle.bs_workers.specs.inner.Making.{Makes}
use Rattle.bs_workers.proofs.alone.Alone.make_all.Given as goal

abbrev pub invariant-loop-next : goal.invariant-loop-next
invariant-loop-next g l =
    Makes (take l.next-index l.acts) l.fn.self.core l.self.core × (l.self.worker ≡ l.fn.self.worker) × (l.self.gate ≡ l.fn.self.gate)
