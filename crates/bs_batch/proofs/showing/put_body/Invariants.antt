use Rattle.bs_batch.proofs.Marked.{BodyMarkedSoFar}
use Rattle.bs_batch.proofs.showing.put_body.Given as goal

-- the last parts are marked, as many as the index says
abbrev pub invariant-loop-index : goal.invariant-loop-index
invariant-loop-index l = BodyMarkedSoFar l.settings l.body l.index l.fn.plane l.plane
