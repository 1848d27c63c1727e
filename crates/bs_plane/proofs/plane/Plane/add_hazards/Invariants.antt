use Rattle.std.proofs.Common.{take}
use Rattle.bs_plane.specs.Plane.{Changes, with_hazards}
use Rattle.bs_plane.proofs.plane.Plane.add_hazards.Given as goal

-- there are hazards on the cells so far
abbrev pub invariant-loop-cell : goal.invariant-loop-cell
invariant-loop-cell l = Changes (with_hazards (take l.cell-index l.cells)) l.fn.self l.self
