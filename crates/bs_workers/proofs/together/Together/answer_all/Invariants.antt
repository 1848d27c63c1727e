-- The journal went on by jobs so far.
use Rattle.std.proofs.Common.{◌≡◌}
use Rattle.bs_workers.specs.inner.Apart.{GoesOn}
use Rattle.bs_workers.proofs.together.Together.answer_all.Given as goal

abbrev pub invariant-loop : goal.invariant-loop
invariant-loop g l =
    GoesOn l.fn.self.alone.core l.self.alone.core × (l.self.alone.worker ≡ l.fn.self.alone.worker)
    × (l.self.alone.gate ≡ l.fn.self.alone.gate)
