-- The events appended so far, then those of the entries still to come.
use Rattle.std.proofs.Common.{◌≡◌, ◌++◌}
use Rattle.bs_sched.specs.inner.Entries.{all_events}
use Rattle.bs_sched.proofs.entry.push_all.Given as goal

abbrev pub invariant-loop-entry : goal.invariant-loop-entry
invariant-loop-entry l = l.events.items ++ all_events l.entry-iterator.rest.items ≡ l.fn.events.items ++ all_events l.fn.entries.items
