use Rattle.std.proofs.Common.{take}
use Rattle.bs_food.specs.Given.{all_given}
use Rattle.bs_plane.specs.inner.Food.{AddsFood}
use Rattle.bs_plane.proofs.given.give_all.Given as goal

-- there is the food of the cells so far
abbrev pub invariant-loop-cell : goal.invariant-loop-cell
invariant-loop-cell l = AddsFood (all_given (take l.cell-index l.cells)) l.fn.plane l.fn.into.items l.plane l.into.items
