-- The events packed so far, then those still to come.
use Rattle.std.proofs.Common.{◌≡◌, ◌++◌}
use Rattle.bs_sched.specs.inner.Entries.{all_events}
use Rattle.bs_sched.proofs.packed.Packed.of_events.Given as goal

abbrev pub invariant-loop-event : goal.invariant-loop-event
invariant-loop-event l = all_events l.entries.items ++ l.event-iterator.rest.items ≡ l.fn.events.items
