use Rattle.std.proofs.Common.{◌≡◌}
use Rattle.bs_batch.proofs.MovedAll.{MovedSoFar}
use Rattle.bs_batch.proofs.turns.move_seats.Given as goal

-- the seats so far are moved and fed; the settings and the list of food stay
abbrev pub invariant-loop-seat : goal.invariant-loop-seat
invariant-loop-seat l = record {
  settings : l.head.settings ≡ l.fn.head.settings;
  foods : l.head.foods ≡ l.fn.head.foods;
  board : MovedSoFar l.moves l.seat l.fn.head l.fn.bodies l.fn.plane l.head l.bodies l.plane l.any;
}
