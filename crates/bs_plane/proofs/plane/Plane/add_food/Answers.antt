use Rattle.bs_plane.proofs.LoadedPlane.{foods_more}
use Rattle.bs_plane.proofs.plane.Plane.add_food.Goals as goal

pub loop-cell-preserved : goal.loop-cell-preserved
loop-cell-preserved c =
    foods_more c.args.food.now c.loop-cell.cell-index c.loop-cell-test.true c.args.self.now c.loop-cell.self c.put_food.new.self c.loop-cell.invariant
    (c.put_food.ensures c.if-not-put_food.false)
