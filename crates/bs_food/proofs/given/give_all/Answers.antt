use Rattle.bs_food.proofs.GivenFood.{one_given_more}
use Rattle.bs_food.proofs.given.give_all.Goals as goal

pub loop-cell-preserved : goal.loop-cell-preserved
loop-cell-preserved c =
    one_given_more c.args.board.now c.loop-cell.board c.give_one.new.board c.args.cells.now c.loop-cell.cell-index c.loop-cell-test.true c.loop-cell.invariant
    c.in_ok-give_one.ensures
