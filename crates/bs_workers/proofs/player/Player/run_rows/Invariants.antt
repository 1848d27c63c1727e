-- The stays so far were played.
use Rattle.std.specs.Prelude.{All}
use Rattle.bs_workers.specs.inner.Stays.{IsPlayedStay}
use Rattle.bs_workers.proofs.player.Player.run_rows.Given as goal

abbrev pub invariant-loop : goal.invariant-loop
invariant-loop g l = All (λ lone. IsPlayedStay g.row.CAP l.self.workers l.self.acts.now l.self.stays.now lone.row lone.stay) l.stays.items
