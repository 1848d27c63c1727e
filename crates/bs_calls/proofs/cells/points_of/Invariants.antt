use Rattle.std.proofs.Common.{◌≡◌, map, take}
use Rattle.bs_calls.specs.BySeat.{point_of}
use Rattle.bs_calls.proofs.cells.points_of.Given as goal

-- the cells so far
abbrev pub invariant-loop-cell : goal.invariant-loop-cell
invariant-loop-cell l = l.points.items ≡ map point_of (take l.cell-index l.cells)
