use Rattle.std.proofs.Common.{◌≡◌}
use Rattle.bs_rules.specs.Collision.{killer_among}
use Rattle.bs_rules.proofs.collision.find_killer.Given as goal

-- the killer among the seats so far
abbrev pub invariant-loop-other : goal.invariant-loop-other
invariant-loop-other l = l.killer ≡ killer_among l.other l.snakes l.seat l.cause
