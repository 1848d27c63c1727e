-- One more part is appended.
use Rattle.bs_sched.proofs.Entries.{one_more_take}
use Rattle.bs_sched.proofs.entry.push_takes.Goals as goal

pub loop-part-preserved : goal.loop-part-preserved
loop-part-preserved c =
    one_more_take c.args.worker c.args.game c.loop-part.part c.args.events.now.items c.loop-part.events.items c.push.new.self.items
    (rw c.part_of.ensures at c.in_ok-push.ensures.items) c.loop-part.invariant
