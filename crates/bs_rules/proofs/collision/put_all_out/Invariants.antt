use Rattle.std.proofs.Common.{◌≡◌, ◌++◌, take, drop, get_or, None, length}
use Rattle.bs_rules.specs.Collision.{map_seats}
use Rattle.bs_rules.specs.Elimination.{judged}
use Rattle.bs_rules.proofs.collision.put_all_out.Given as goal

-- the seats so far are judged, the others are unchanged
abbrev pub invariant-loop-seat : goal.invariant-loop-seat
invariant-loop-seat l =
    (length l.snakes ≡ length l.fn.snakes)
    × (l.snakes ≡ map_seats (λ seat s. judged l.turn (get_or l.verdicts seat None) s) (take l.seat l.fn.snakes) ++ drop l.seat l.fn.snakes)
