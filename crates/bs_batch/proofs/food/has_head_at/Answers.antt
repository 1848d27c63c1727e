use Rattle.bs_batch.proofs.FoodHeads.{head_is_on, out_has_none}
use Rattle.bs_batch.proofs.food.has_head_at.Goals as goal

pub returns-then-head-seat-ne-ALIVE : goal.returns-then-head-seat-ne-ALIVE
returns-then-head-seat-ne-ALIVE c width height snakes p shows near is within =
    out_has_none c.args.head.now c.args.bodies.now width height snakes p shows near c.args.seat within c.if-head-seat-ne-ALIVE.true

pub returns : goal.returns
returns c width height snakes p shows near is within =
    head_is_on c.args.head.now c.args.bodies.now width height snakes p shows near c.args.seat c.head_of.result c.args.cell c.body_of.result.now within
    c.if-head-seat-ne-ALIVE.false c.body_of.ensures c.head_of.ensures is
