use Rattle.bs_plane.proofs.LoadedPlane.{parts_more}
use Rattle.bs_plane.proofs.plane.Plane.add_body.Goals as goal

pub loop-part-preserved : goal.loop-part-preserved
loop-part-preserved c =
    parts_more c.args.body.now c.loop-part.part-index c.loop-part-test.true c.args.self.now c.loop-part.self c.add_part.new.self c.loop-part.invariant
    (c.add_part.ensures c.if-not-add_part.false)
