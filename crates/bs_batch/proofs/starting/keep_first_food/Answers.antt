use Rattle.std.proofs.Common.{arith}
use Rattle.bs_batch.proofs.StartedBoard.{dropped_food}
use Rattle.bs_batch.proofs.starting.keep_first_food.Goals as goal

pub returns-then-head-eq-CONSTRICTOR-clause-board : goal.returns-then-head-eq-CONSTRICTOR-clause-board
returns-then-head-eq-CONSTRICTOR-clause-board c =
    dropped_food c.args.food.now c.min-foods.result c.args.head.now c.drop_food.new.head c.args.plane.now c.drop_food.new.plane (omega arith)
    c.if-head-eq-CONSTRICTOR.true c.drop_food.ensures.board
