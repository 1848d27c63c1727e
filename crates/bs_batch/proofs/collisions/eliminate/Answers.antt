use Rattle.bs_batch.proofs.Eliminated.{eliminated}
use Rattle.bs_batch.proofs.collisions.eliminate.Goals as goal

pub returns-clause-board : goal.returns-clause-board
returns-clause-board c b v is shows room within alive =
    eliminated b c.args.seat v within c.args.head.now c.args.plane.now c.remove_body.new.plane c.args.bodies.now c.body_of.result.now c.args.verdict
    c.requires.seat is shows room alive c.body_of.ensures c.remove_body.ensures
