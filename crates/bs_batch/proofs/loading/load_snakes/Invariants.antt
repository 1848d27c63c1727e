use Rattle.std.proofs.Common.{◌≡◌}
use Rattle.bs_batch.proofs.LoadedAll.{LoadedSoFar}
use Rattle.bs_batch.proofs.loading.load_snakes.Given as goal

-- the snakes so far are loaded; the settings stay
abbrev pub invariant-loop-seat : goal.invariant-loop-seat
invariant-loop-seat l = record {
  settings : l.head.settings ≡ l.fn.head.settings;
  board : LoadedSoFar l.snakes l.seat l.fn.head l.fn.bodies l.fn.plane l.head l.bodies l.plane;
}
