use Rattle.std.proofs.Common.{◌≡◌, ◌++◌, map, take, drop}
use Rattle.bs_rules.specs.Hurting.{hurt_snake}
use Rattle.bs_rules.proofs.hurting.hurt_snakes.Given as goal

-- the seats so far are hurt, the others are unchanged
abbrev pub invariant-loop-seat : goal.invariant-loop-seat
invariant-loop-seat l = l.snakes ≡ map (hurt_snake l.hazards l.food l.turn) (take l.seat l.fn.snakes) ++ drop l.seat l.fn.snakes
