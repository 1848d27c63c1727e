use Rattle.bs_batch.proofs.StartedFood.{DroppedSoFar}
use Rattle.bs_batch.proofs.starting.drop_food.Given as goal

-- the cells so far have no food
abbrev pub invariant-loop-cell : goal.invariant-loop-cell
invariant-loop-cell l = DroppedSoFar l.food l.cell-index l.fn.plane l.plane
