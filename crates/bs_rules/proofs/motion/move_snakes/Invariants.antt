use Rattle.std.proofs.Common.{◌≡◌, ◌++◌, take, drop}
use Rattle.bs_rules.specs.Motion.{moved_seats}
use Rattle.bs_rules.proofs.motion.move_snakes.Given as goal

-- the seats so far are moved, the others are unchanged
abbrev pub invariant-loop-seat : goal.invariant-loop-seat
invariant-loop-seat l = l.snakes ≡ moved_seats l.wrap l.moves (take l.seat l.fn.snakes) ++ drop l.seat l.fn.snakes
