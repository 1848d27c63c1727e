use Rattle.std.proofs.Common.{◌≡◌, ◌+◌, count_by, take}
use Rattle.bs_plane.specs.Plane.{is_free}
use Rattle.bs_plane.proofs.food.find_in.Given as goal

-- the free cells so far and those that are left
abbrev pub invariant-loop-place : goal.invariant-loop-place
invariant-loop-place l = l.left + count_by is_free (take l.place l.cells) ≡ l.number
