use Rattle.bs_batch.proofs.Bodies.{GoneSoFar}
use Rattle.bs_batch.proofs.planes.remove_body.Given as goal

-- the parts so far are gone
abbrev pub invariant-loop-cell : goal.invariant-loop-cell
invariant-loop-cell l = GoneSoFar l.body l.cell-index l.fn.plane l.plane
