use Rattle.std.proofs.Common.{◌≡◌, ◌+◌, count_by, length}
use Rattle.bs_plane.specs.Plane.{is_free}
use Rattle.bs_plane.proofs.food.count_free.Given as goal

-- the free cells so far and those of the rest
abbrev pub invariant-loop-chunk : goal.invariant-loop-chunk
invariant-loop-chunk l = l.free + count_by is_free l.rest ≡ count_by is_free l.cells

abbrev pub decreases-loop-chunk : goal.decreases-loop-chunk
decreases-loop-chunk l = length l.rest
