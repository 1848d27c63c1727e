use Rattle.bs_batch.proofs.LoadedAll.{FoodAdded}
use Rattle.bs_batch.proofs.loading.load_food.Given as goal

-- the cells so far have food
abbrev pub invariant-loop-cell : goal.invariant-loop-cell
invariant-loop-cell l = FoodAdded l.cells l.cell-index l.fn.plane l.plane
