use Rattle.std.proofs.Common.{take}
use Rattle.bs_plane.specs.Plane.{Changes}
use Rattle.bs_plane.specs.Food.{without_foods}
use Rattle.bs_plane.proofs.food.remove_eaten.Given as goal

-- there is no food under the heads so far
abbrev pub invariant-loop-head : goal.invariant-loop-head
invariant-loop-head l = Changes (without_foods (take l.head-index l.heads)) l.fn.plane l.plane
