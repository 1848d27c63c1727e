use Rattle.bs_batch.proofs.ShownPlanes.{ShownSoFar}
use Rattle.bs_batch.proofs.showing.show.Given as goal

-- the food and the seats so far are shown
abbrev pub invariant-loop-seat : goal.invariant-loop-seat
invariant-loop-seat l = ShownSoFar l.head l.food l.bodies l.seat l.into
