use Rattle.std.proofs.Common.{◌≡◌, ◌++◌, map, take, drop}
use Rattle.bs_rules.specs.Feeding.{fed_snake}
use Rattle.bs_rules.proofs.feeding.feed_snakes.Given as goal

-- the seats so far are fed, the others are unchanged
abbrev pub invariant-loop-seat : goal.invariant-loop-seat
invariant-loop-seat l = l.snakes ≡ map (fed_snake l.food) (take l.seat l.fn.snakes) ++ drop l.seat l.fn.snakes
