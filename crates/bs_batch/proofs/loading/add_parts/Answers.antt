use Rattle.std.proofs.Common.{bit_and}
use Rattle.std.proofs.lemmas.Nat.{and_mask}
use Rattle.bs_batch.proofs.Loaded.{all_added, next_added, none_more}
use Rattle.bs_batch.proofs.loading.add_parts.Goals as goal

pub returns-then-at-ge-MOST_PARTS : goal.returns-then-at-ge-MOST_PARTS
returns-then-at-ge-MOST_PARTS c =
    none_more c.args.body.now c.loop-cell.cell-index c.at.result (bit_and c.at.result 127) c.args.plane.now c.loop-cell.plane c.loop-cell-test.true c.at.ensures
    (and_mask c.at.result 7) c.if-at-ge-MOST_PARTS.true c.loop-cell.invariant

pub loop-cell-preserved : goal.loop-cell-preserved
loop-cell-preserved c =
    next_added c.args.body.now c.loop-cell.cell-index c.at.result (bit_and c.at.result 127) c.args.plane.now c.loop-cell.plane c.add_part.new.plane c.loop-cell-test.true
    c.at.ensures (and_mask c.at.result 7) c.if-at-ge-MOST_PARTS.false c.add_part.ensures c.loop-cell.invariant

pub returns : goal.returns
returns c = all_added c.args.body.now c.loop-cell.cell-index c.args.plane.now c.loop-cell.plane c.loop-cell-test.false c.loop-cell.invariant
