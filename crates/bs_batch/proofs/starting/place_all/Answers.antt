use Rattle.std.proofs.Common.{◌∙◌}
use Rattle.bs_batch.proofs.StartedBoard.{all_placed}
use Rattle.bs_batch.proofs.starting.place_all.Goals as goal

pub returns-clause-board : goal.returns-clause-board
returns-clause-board c =
    all_placed c.args.first.starts.now c.args.first.food.now c.args.head.now c.place_snakes.new.head c.place_food.new.head c.args.bodies.now c.place_snakes.new.bodies
    c.place_food.new.food c.args.plane.now c.place_snakes.new.plane c.place_food.new.plane c.place_snakes.result c.place_food.result c.if-not-place_snakes.false
    c.place_snakes.auto.bodies (c.place_food.auto.plane ∙ c.place_snakes.auto.plane) c.place_snakes.ensures.board c.place_food.ensures.board
