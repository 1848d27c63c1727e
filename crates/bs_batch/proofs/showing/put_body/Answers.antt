use Rattle.bs_batch.proofs.Marked.{all_parts_marked, no_part_marked, one_part_marked}
use Rattle.bs_batch.proofs.showing.put_body.Goals as goal

pub loop-index-init : goal.loop-index-init
loop-index-init c = no_part_marked c.args.settings.now c.args.body.now c.args.plane.now

pub loop-index-preserved : goal.loop-index-preserved
loop-index-preserved c =
    one_part_marked c.args.settings.now c.args.body.now c.loop-index.index c.min.result c.args.plane.now c.loop-index.plane c.put.new.plane c.loop-index-test.true
    c.min.ensures c.put.ensures c.loop-index.invariant

pub returns : goal.returns
returns c =
    all_parts_marked c.args.settings.now c.args.body.now c.loop-index.index c.args.plane.now c.loop-index.plane c.loop-index-test.false c.loop-index.invariant
