use Rattle.std.proofs.Common.{◌≡◌, ◌++◌, map, take, drop}
use Rattle.bs_rules.specs.Elimination.{starved_or_outside_snake}
use Rattle.bs_rules.proofs.starved_or_outside.judge_snakes.Given as goal

-- the seats so far are judged, the others are unchanged
abbrev pub invariant-loop-seat : goal.invariant-loop-seat
invariant-loop-seat l = l.snakes ≡ map (starved_or_outside_snake l.wraps l.width l.height l.turn) (take l.seat l.fn.snakes) ++ drop l.seat l.fn.snakes
