use Rattle.bs_board.specs.declared.boards.snake.Cause.TheVariants.{HeadCollision}
use Rattle.bs_batch.proofs.Judged.{head_hit, head_miss, head_self, hits_none}
use Rattle.bs_batch.proofs.collisions.hits_head.Goals as goal

pub returns-then-other-seat : goal.returns-then-other-seat
returns-then-other-seat c width height snakes shows within alive is inside =
    head_self c.args.head.now c.args.bodies.now width height snakes shows c.args.seat c.args.other c.if-other-seat.true

pub returns-then-head-other-ne-ALIVE : goal.returns-then-head-other-ne-ALIVE
returns-then-head-other-ne-ALIVE c width height snakes shows within alive is inside =
    hits_none c.args.head.now c.args.bodies.now width height snakes shows c.args.seat c.args.other HeadCollision inside c.if-head-other-ne-ALIVE.true

pub returns-then-head_of-cell : goal.returns-then-head_of-cell
returns-then-head_of-cell c width height snakes shows within alive is inside =
    head_miss c.args.head.now c.args.bodies.now width height snakes shows c.args.seat c.args.other c.args.cell c.head_of.result c.body_of.result.now
    within inside is c.if-other-seat.false c.body_of.ensures c.head_of.ensures c.if-head_of-cell.true

pub returns : goal.returns
returns c width height snakes shows within alive is inside =
    head_hit c.args.head.now c.args.bodies.now width height snakes shows c.args.seat c.args.other c.args.cell c.head_of.result c.body_of.result.now
    within inside alive is c.if-other-seat.false c.if-head-other-ne-ALIVE.false c.body_of.ensures c.head_of.ensures c.if-head_of-cell.false
