-- The events so far are appended.
use Rattle.std.proofs.Common.{◌≡◌, ◌++◌}
use Rattle.bs_sched.specs.Answering.{part_puts}
use Rattle.bs_sched.proofs.entry.push_puts.Given as goal

abbrev pub invariant-loop-part : goal.invariant-loop-part
invariant-loop-part l = l.events.items ≡ l.initial.events.items ++ part_puts l.worker l.game l.part
