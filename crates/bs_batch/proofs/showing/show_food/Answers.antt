use Rattle.std.proofs.Common.{arith, ◌-◌}
use Rattle.bs_batch.proofs.ShownPlanes.{food_plane}
use Rattle.bs_batch.proofs.showing.show_food.Goals as goal

pub returns : goal.returns
returns c =
    food_plane c.args.head.now c.args.food.now c.args.into.now c.put_food.new.plane c.args.area (c.args.area - 0) c.min-count.result c.if-area-into.false (omega arith)
    c.put_food.auto.plane (omega arith) c.put_food.ensures
