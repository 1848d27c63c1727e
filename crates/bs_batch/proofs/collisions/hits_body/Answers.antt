use Rattle.bs_board.specs.declared.boards.snake.Cause.TheVariants.{BodyCollision}
use Rattle.bs_batch.proofs.Judged.{body_hit, body_self, hits_none}
use Rattle.bs_batch.proofs.collisions.hits_body.Goals as goal

pub returns-then-other-seat : goal.returns-then-other-seat
returns-then-other-seat c width height snakes shows within alive is inside =
    body_self c.args.head.now c.args.bodies.now width height snakes shows c.args.seat c.args.other c.if-other-seat.true

pub returns-then-head-other-ne-ALIVE : goal.returns-then-head-other-ne-ALIVE
returns-then-head-other-ne-ALIVE c width height snakes shows within alive is inside =
    hits_none c.args.head.now c.args.bodies.now width height snakes shows c.args.seat c.args.other BodyCollision inside c.if-head-other-ne-ALIVE.true

pub returns : goal.returns
returns c width height snakes shows within alive is inside =
    body_hit c.args.head.now c.args.bodies.now width height snakes shows c.args.seat c.args.other c.args.cell c.body_of.result.now c.is_on_later_part.result
    within inside alive is c.if-other-seat.false c.if-head-other-ne-ALIVE.false c.body_of.ensures c.is_on_later_part.ensures
