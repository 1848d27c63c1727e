use Rattle.bs_batch.proofs.Judged.{first_killer, keeps_killer, takes_killer}
use Rattle.bs_batch.proofs.collisions.longer_of.Goals as goal

pub returns-then-not-hit : goal.returns-then-not-hit
returns-then-not-hit c bodies width height snakes so_far shows is inside e = rw c.if-not-hit.true e

pub returns-then-killer-ge-SEATS : goal.returns-then-killer-ge-SEATS
returns-then-killer-ge-SEATS c bodies width height snakes so_far shows is inside e =
    rw c.if-not-hit.false (first_killer c.args.head.now bodies width height snakes shows c.args.killer c.args.other so_far is e c.if-killer-ge-SEATS.true)

pub returns-then-head-killer : goal.returns-then-head-killer
returns-then-head-killer c bodies width height snakes so_far shows is inside e =
    rw c.if-not-hit.false (keeps_killer c.args.head.now bodies width height snakes shows c.args.killer c.args.other so_far is inside e c.if-killer-ge-SEATS.false c.if-head-killer.true)

pub returns-else-head-killer : goal.returns-else-head-killer
returns-else-head-killer c bodies width height snakes so_far shows is inside e =
    rw c.if-not-hit.false (takes_killer c.args.head.now bodies width height snakes shows c.args.killer c.args.other so_far is inside e c.if-killer-ge-SEATS.false c.if-head-killer.false)
