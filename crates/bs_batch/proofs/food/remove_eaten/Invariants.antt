use Rattle.std.proofs.Common.{◌≤◌}
use Rattle.bs_batch.proofs.FoodEaten.{EatenSoFar}
use Rattle.bs_batch.proofs.food.remove_eaten.Given as goal

-- the food under heads is gone from the cells so far
abbrev pub invariant-loop-index : goal.invariant-loop-index
invariant-loop-index l = record {
  low : l.left ≤ l.index;
  board : EatenSoFar l.index l.left l.fn.head l.bodies l.fn.food l.fn.plane l.food l.plane;
}
