use Rattle.bs_plane.proofs.EatenFood.{gone_more}
use Rattle.bs_plane.proofs.food.remove_eaten.Goals as goal

pub loop-head-preserved : goal.loop-head-preserved
loop-head-preserved c =
    gone_more c.args.heads.now c.loop-head.head-index c.loop-head-test.true c.args.plane.now c.loop-head.plane c.put_food.new.self c.loop-head.invariant
    (c.put_food.ensures c.if-not-put_food.false)
