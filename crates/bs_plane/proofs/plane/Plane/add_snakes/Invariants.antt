use Rattle.std.proofs.Common.{take}
use Rattle.bs_plane.specs.Plane.{Changes, with_snakes}
use Rattle.bs_plane.proofs.plane.Plane.add_snakes.Given as goal

-- the snakes so far are counted
abbrev pub invariant-loop-snake : goal.invariant-loop-snake
invariant-loop-snake l = Changes (with_snakes (take l.snake-index l.snakes)) l.fn.self l.self
