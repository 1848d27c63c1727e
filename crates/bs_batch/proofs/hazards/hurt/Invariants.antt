use Rattle.std.proofs.Common.{◌≡◌}
use Rattle.bs_batch.specs.Hurting.{hurt_at}
use Rattle.bs_batch.proofs.Steps.{ChangesSoFar}
use Rattle.bs_batch.proofs.hazards.hurt.Given as goal

-- the seats so far are hurt; the settings and the list of food stay
abbrev pub invariant-loop-seat : goal.invariant-loop-seat
invariant-loop-seat l = record {
  settings : l.head.settings ≡ l.fn.head.settings;
  foods : l.head.foods ≡ l.fn.head.foods;
  board : ChangesSoFar (λ b _. hurt_at l.hazards.counts.now l.hazards.damage b) l.seat l.bodies l.fn.head l.fn.plane l.head l.plane;
}
