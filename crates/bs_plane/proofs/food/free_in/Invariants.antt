use Rattle.std.proofs.Common.{◌≡◌, count_by, take}
use Rattle.bs_plane.specs.Plane.{is_free}
use Rattle.bs_plane.proofs.food.free_in.Given as goal

-- the free cells so far
abbrev pub invariant-loop-cell : goal.invariant-loop-cell
invariant-loop-cell l = l.free ≡ count_by is_free (take l.cell-index l.chunk)
