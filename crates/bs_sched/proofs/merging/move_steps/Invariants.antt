-- What is moved so far, and the acts that are left of the order.
use Rattle.std.proofs.Common.{◌≡◌, ◌++◌, drop, length}
use Rattle.bs_sched.specs.inner.Merging.{acts_taken, lefts_after}
use Rattle.bs_sched.proofs.merging.move_steps.Given as goal

abbrev pub invariant-loop-step : goal.invariant-loop-step
invariant-loop-step l = record {
  many : length l.lefts.items ≡ length l.fn.lefts.items;
  acts : l.journal.items ++ acts_taken (drop l.step-index l.order) l.lefts.items ≡ l.fn.journal.items ++ acts_taken l.order l.fn.lefts.items;
  lefts : lefts_after (drop l.step-index l.order) l.lefts.items ≡ lefts_after l.order l.fn.lefts.items;
}
