use Rattle.std.proofs.Common.{◌≡◌}
use Rattle.bs_batch.proofs.StartedAll.{PlacedSoFar}
use Rattle.bs_batch.proofs.starting.place_snakes.Given as goal

-- the snakes so far are placed; the settings stay
abbrev pub invariant-loop-seat : goal.invariant-loop-seat
invariant-loop-seat l = record {
  settings : l.head.settings ≡ l.fn.head.settings;
  board : PlacedSoFar l.starts l.seat l.fn.head l.fn.bodies l.fn.plane l.head l.bodies l.plane;
}
