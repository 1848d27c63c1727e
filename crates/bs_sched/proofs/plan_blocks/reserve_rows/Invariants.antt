use Rattle.std.proofs.Common.{◌≡◌, ◌+◌, ◌*◌, ◌<◌, ◌++◌, drop, All}
use Rattle.bs_pool.specs.Reservations.{all_reserved}
use Rattle.bs_registry.specs.Blocks.{blocks_of_all}
use Rattle.bs_sched.specs.PlanBlocks.{reservations_from, reservations_of}
use Rattle.bs_sched.proofs.plan_blocks.reserve_rows.Given as goal

-- the reservations made so far, then those still to be made
abbrev pub invariant-loop-game : goal.invariant-loop-game
invariant-loop-game g l = record {
  owners : l.pool.owners ≡ l.fn.pool.owners;
  done : l.pool.reservations ++ reservations_from g.row.CAP l.game (drop l.game l.rows) ≡ reservations_of g.row.CAP l.rows;
  below : All (λ r. r.tag < 2 * l.game) l.pool.reservations;
  room : all_reserved l.pool.reservations + blocks_of_all g.row.CAP (drop l.game l.rows) ≡ blocks_of_all g.row.CAP l.rows;
}
