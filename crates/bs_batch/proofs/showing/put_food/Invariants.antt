use Rattle.bs_batch.proofs.Marked.{FoodMarkedSoFar}
use Rattle.bs_batch.proofs.showing.put_food.Given as goal

-- the food so far is marked
abbrev pub invariant-loop-cell : goal.invariant-loop-cell
invariant-loop-cell l = FoodMarkedSoFar l.settings l.food l.cell-index l.fn.plane l.plane
