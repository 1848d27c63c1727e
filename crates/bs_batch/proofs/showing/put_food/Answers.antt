use Rattle.bs_batch.proofs.Marked.{all_food_marked, no_food_marked, one_food_marked}
use Rattle.bs_batch.proofs.showing.put_food.Goals as goal

pub loop-cell-init : goal.loop-cell-init
loop-cell-init c = no_food_marked c.args.settings.now c.args.food.now c.args.plane.now

pub loop-cell-preserved : goal.loop-cell-preserved
loop-cell-preserved c =
    one_food_marked c.args.settings.now c.args.food.now c.loop-cell.cell-index c.args.plane.now c.loop-cell.plane c.put.new.plane c.loop-cell-test.true c.put.ensures
    c.loop-cell.invariant

pub returns : goal.returns
returns c = all_food_marked c.args.settings.now c.args.food.now c.loop-cell.cell-index c.args.plane.now c.loop-cell.plane c.loop-cell-test.false c.loop-cell.invariant
