-- The commands at the places so far are queued.
use Rattle.std.proofs.Common.{◌≡◌, ◌++◌, map, take}
use Rattle.std.specs.List.{filter_map}
use Rattle.bs_sched.specs.declared.event.Event.TheVariants as event
use Rattle.bs_workers.specs.Acts.{command_in}
use Rattle.bs_workers.specs.inner.Apart.{acts_at}
use Rattle.bs_workers.proofs.alone.Alone.queue.Given as goal

abbrev pub invariant-loop-place : goal.invariant-loop-place
invariant-loop-place g l =
    (l.self.core.journal ≡ l.fn.self.core.journal ++ map (event.Hand 0) (filter_map (command_in l.row) (take l.place-index (acts_at l.acts l.places))))
    × (l.self.worker ≡ l.fn.self.worker)
