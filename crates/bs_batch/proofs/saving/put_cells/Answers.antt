use Rattle.std.proofs.Common.{arith}
use Rattle.bs_batch.proofs.Saved.{all_cells, no_cells, one_cell}
use Rattle.bs_batch.proofs.saving.put_cells.Goals as goal

pub loop-cell-init : goal.loop-cell-init
loop-cell-init c = no_cells c.args.first c.args.at c.args.cells.now c.args.into.now

pub loop-cell-preserved : goal.loop-cell-preserved
loop-cell-preserved c =
    one_cell c.args.first c.loop-cell.cell-index c.args.at c.loop-cell.end c.put-end.result _ _ c.args.cells.now c.args.into.now c.loop-cell.into c.put-end.new.into
    c.loop-cell-test.true c.loop-cell.invariant c.put-end.ensures (omega arith) (omega arith)

pub returns : goal.returns
returns c = all_cells c.args.first c.loop-cell.cell-index c.args.at c.loop-cell.end c.args.cells.now c.args.into.now c.loop-cell.into c.loop-cell-test.false c.loop-cell.invariant
