use Rattle.std.proofs.Common.{get_or, refl}
use Rattle.bs_batch.proofs.Bodies.{all_gone, one_gone}
use Rattle.bs_batch.proofs.planes.remove_body.Goals as goal

pub loop-cell-preserved : goal.loop-cell-preserved
loop-cell-preserved c =
    one_gone c.args.body.now c.loop-cell.cell-index (get_or c.args.body.now c.loop-cell.cell-index 0) c.args.plane.now c.loop-cell.plane c.remove_part.new.plane
    c.loop-cell-test.true refl c.loop-cell.invariant c.remove_part.ensures

pub returns : goal.returns
returns c =
    all_gone c.args.body.now c.loop-cell.cell-index c.args.plane.now c.loop-cell.plane c.loop-cell-test.false c.loop-cell.invariant
