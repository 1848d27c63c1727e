-- The stays that are there were played.
use Rattle.bs_workers.specs.inner.Stays.{ArePlayedStays}
use Rattle.bs_workers.proofs.player.Player.play_left.Given as goal

abbrev pub invariant-loop-row : goal.invariant-loop-row
invariant-loop-row g l = ArePlayedStays g.row.CAP l.self.workers l.self.acts.now l.self.stays.now l.table.slots.items
