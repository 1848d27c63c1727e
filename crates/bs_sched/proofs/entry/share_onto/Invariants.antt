-- The events appended so far, then those of the entries still to come.
use Rattle.std.proofs.Common.{◌≡◌, ◌++◌, drop}
use Rattle.bs_sched.specs.inner.Entries.{all_events}
use Rattle.bs_sched.proofs.entry.share_onto.Given as goal

abbrev pub invariant-loop-entry : goal.invariant-loop-entry
invariant-loop-entry l = l.events.items ++ all_events (drop l.entry-index l.entries) ≡ l.fn.events.items ++ all_events l.fn.entries
