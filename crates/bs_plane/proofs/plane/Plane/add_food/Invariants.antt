use Rattle.std.proofs.Common.{take}
use Rattle.bs_plane.specs.Plane.{Changes, with_foods}
use Rattle.bs_plane.proofs.plane.Plane.add_food.Given as goal

-- there is food on the cells so far
abbrev pub invariant-loop-cell : goal.invariant-loop-cell
invariant-loop-cell l = Changes (with_foods (take l.cell-index l.food)) l.fn.self l.self
