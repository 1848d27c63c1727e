use Rattle.std.proofs.Common.{length}
use Rattle.bs_plane.proofs.FreeCells.{IsRest}
use Rattle.bs_plane.proofs.food.find_free.Given as goal

-- what is left of the cells, and the number there
abbrev pub invariant-loop-chunk : goal.invariant-loop-chunk
invariant-loop-chunk l = IsRest l.cells l.number l.rest l.left

abbrev pub decreases-loop-chunk : goal.decreases-loop-chunk
decreases-loop-chunk l = length l.rest
