use Rattle.bs_batch.proofs.Saved.{SavedSoFar}
use Rattle.bs_batch.proofs.saving.save.Given as goal

-- the head, the food and the snakes so far are written
abbrev pub invariant-loop-seat : goal.invariant-loop-seat
invariant-loop-seat l = SavedSoFar l.head l.food l.bodies l.seat l.end l.into
