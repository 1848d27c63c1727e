use Rattle.bs_batch.proofs.Listed.{ListedSoFar}
use Rattle.bs_batch.proofs.lists.write.Given as goal

-- the cells so far are listed
abbrev pub invariant-loop-index : goal.invariant-loop-index
invariant-loop-index l = ListedSoFar l.cells l.index l.into
