use Rattle.std.proofs.Common.{◌≡◌}
use Rattle.bs_batch.proofs.GrownAll.{GrownSoFar}
use Rattle.bs_batch.proofs.turns.grow.Given as goal

-- the seats so far have grown; the settings and the list of food stay
abbrev pub invariant-loop-seat : goal.invariant-loop-seat
invariant-loop-seat l = record {
  settings : l.head.settings ≡ l.fn.head.settings;
  foods : l.head.foods ≡ l.fn.head.foods;
  board : GrownSoFar l.seat l.fn.head l.fn.bodies l.fn.plane l.head l.bodies l.plane;
}
