-- The events so far are appended.
use Rattle.std.proofs.Common.{◌≡◌, ◌++◌}
use Rattle.bs_sched.specs.Answering.{part_takes}
use Rattle.bs_sched.proofs.entry.push_takes.Given as goal

abbrev pub invariant-loop-part : goal.invariant-loop-part
invariant-loop-part l = l.events.items ≡ l.initial.events.items ++ part_takes l.worker l.game l.part
