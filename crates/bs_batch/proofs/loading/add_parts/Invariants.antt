use Rattle.bs_batch.proofs.Loaded.{PartsSoFar}
use Rattle.bs_batch.proofs.loading.add_parts.Given as goal

-- the parts so far are counted
abbrev pub invariant-loop-cell : goal.invariant-loop-cell
invariant-loop-cell l = PartsSoFar l.body l.cell-index l.fn.plane l.plane
