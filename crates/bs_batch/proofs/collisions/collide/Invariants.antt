use Rattle.std.proofs.Common.{◌≡◌, ◌+◌}
use Rattle.bs_rules.specs.Collision.{collision_verdict}
use Rattle.bs_rules.specs.Elimination.{judged}
use Rattle.bs_batch.proofs.Steps.{ChangesSoFar}
use Rattle.bs_batch.proofs.collisions.collide.Given as goal

-- the verdicts on the seats so far are applied; the settings and the list of food stay
abbrev pub invariant-loop-seat : goal.invariant-loop-seat
invariant-loop-seat l = record {
  settings : l.head.settings ≡ l.fn.head.settings;
  foods : l.head.foods ≡ l.fn.head.foods;
  board : ChangesSoFar (λ b seat s. judged (b.turn + 1) (collision_verdict b.snakes seat) s) l.seat l.bodies l.fn.head l.fn.plane l.head l.plane;
}
