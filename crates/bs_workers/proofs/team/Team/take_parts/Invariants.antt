-- The parts so far were taken.
use Rattle.bs_workers.specs.inner.Apart.{GoesOn}
use Rattle.bs_workers.proofs.team.Team.take_parts.Given as goal

abbrev pub invariant-loop-part : goal.invariant-loop-part
invariant-loop-part g l = GoesOn l.fn.core l.core
