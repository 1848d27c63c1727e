use Rattle.bs_plane.proofs.LoadedPlane.{hazards_more}
use Rattle.bs_plane.proofs.plane.Plane.add_hazards.Goals as goal

pub loop-cell-preserved : goal.loop-cell-preserved
loop-cell-preserved c =
    hazards_more c.args.cells.now c.loop-cell.cell-index c.loop-cell-test.true c.args.self.now c.loop-cell.self c.put_hazard.new.self c.loop-cell.invariant
    (c.put_hazard.ensures c.if-not-put_hazard.false)
