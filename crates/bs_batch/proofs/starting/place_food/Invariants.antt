use Rattle.std.proofs.Common.{◌≡◌}
use Rattle.bs_batch.proofs.StartedFood.{FoodSoFar}
use Rattle.bs_batch.proofs.starting.place_food.Given as goal

-- the food so far is placed; the settings stay
abbrev pub invariant-loop-cell : goal.invariant-loop-cell
invariant-loop-cell l = record {
  settings : l.head.settings ≡ l.fn.head.settings;
  board : FoodSoFar l.cells l.cell-index l.fn.head l.fn.plane l.head l.food l.plane;
}
