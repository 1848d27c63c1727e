-- The blocks of the stays so far.
use Rattle.std.proofs.Common.{◌≡◌, take}
use Rattle.bs_sched.specs.StaysHeld.{blocks_held}
use Rattle.bs_workers.proofs.apart.held_by.Given as goal

abbrev pub invariant-loop-stay : goal.invariant-loop-stay
invariant-loop-stay g l = l.held ≡ blocks_held (take l.stay-index l.stays)
