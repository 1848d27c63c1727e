-- The stays so far are kept, and the others were played.
use Rattle.std.specs.Prelude.{All}
use Rattle.bs_workers.specs.inner.Stays.{ArePlayedStays, IsPlayedStay}
use Rattle.bs_workers.proofs.player.Player.keep.Given as goal

abbrev pub invariant-loop : goal.invariant-loop
invariant-loop g l =
    All (λ lone. IsPlayedStay g.row.CAP l.self.workers l.self.acts.now l.self.stays.now lone.row lone.stay) l.ran.items
    × ArePlayedStays g.row.CAP l.self.workers l.self.acts.now l.self.stays.now l.table.slots.items
