use Rattle.std.proofs.Common.{arith}
use Rattle.bs_batch.proofs.Loaded.{all_written, one_written}
use Rattle.bs_batch.proofs.loading.write_cells.Goals as goal

pub loop-index-preserved : goal.loop-index-preserved
loop-index-preserved c =
    one_written c.loop-index.index c.number_of.result c.args.cells.now c.loop-index.room c.loop-index-test.true
    (omega (arith, c.loop-index-test.true, c.if-cells-room.false, c.loop-index.auto.room)) c.number_of.ensures c.loop-index.invariant

pub returns-clause-cells : goal.returns-clause-cells
returns-clause-cells c _ =
    all_written c.loop-index.index c.args.cells.now c.loop-index.room (omega (arith, c.loop-index-test.false, c.loop-index.auto.index-end)) c.loop-index.invariant
