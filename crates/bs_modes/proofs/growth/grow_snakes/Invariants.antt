use Rattle.std.proofs.Common.{◌≡◌, map, take, drop, ◌++◌}
use Rattle.bs_modes.specs.Growth.{grown_snake}
use Rattle.bs_modes.proofs.growth.grow_snakes.Given as goal

-- the seats that are done have grown, the others are as they were
abbrev pub invariant-loop-seat : goal.invariant-loop-seat
invariant-loop-seat l = l.snakes ≡ map grown_snake (take l.seat l.fn.snakes) ++ drop l.seat l.fn.snakes
