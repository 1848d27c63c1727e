use Rattle.std.proofs.Common.{arith}
use Rattle.bs_batch.proofs.Listed.{food_shown}
use Rattle.bs_batch.proofs.LoadedBoard.{food_near}
use Rattle.bs_batch.proofs.lists.list_food.Goals as goal

pub returns-clause-cells : goal.returns-clause-cells
returns-clause-cells c b legal shows =
    c.write.ensures.places b.width b.height b.food (food_near b legal) (food_shown c.args.head.now.foods c.min-count.result c.args.food.now b.food (omega arith) shows)
