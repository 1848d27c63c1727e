use Rattle.bs_batch.proofs.Saved.{CellsSoFar}
use Rattle.bs_batch.proofs.saving.put_cells.Given as goal

-- the cells so far are written
abbrev pub invariant-loop-cell : goal.invariant-loop-cell
invariant-loop-cell l = CellsSoFar l.first l.cells l.cell-index l.fn.at l.fn.into l.end l.into
