use Rattle.bs_batch.proofs.StartedFood.{all_dropped, none_dropped, one_dropped}
use Rattle.bs_batch.proofs.starting.drop_food.Goals as goal

pub loop-cell-init : goal.loop-cell-init
loop-cell-init c = none_dropped c.args.food.now c.args.plane.now

pub loop-cell-preserved : goal.loop-cell-preserved
loop-cell-preserved c =
    one_dropped c.args.food.now c.loop-cell.cell-index c.args.plane.now c.loop-cell.plane c.remove_food.new.plane c.loop-cell-test.true c.remove_food.ensures c.loop-cell.invariant

pub returns-clause-board : goal.returns-clause-board
returns-clause-board c =
    all_dropped c.args.food.now c.loop-cell.cell-index c.args.head.now c.args.plane.now c.loop-cell.plane c.loop-cell-test.false c.loop-cell.invariant
