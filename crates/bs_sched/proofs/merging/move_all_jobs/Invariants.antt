-- The jobs moved so far, then those of the journals that are left.
use Rattle.std.proofs.Common.{◌≡◌, ◌+◌, ◌++◌, length}
use Rattle.bs_sched.specs.inner.Merging.{all_jobs}
use Rattle.bs_sched.proofs.merging.move_all_jobs.Given as goal

abbrev pub invariant-loop-left : goal.invariant-loop-left
invariant-loop-left l = record {
  count : l.row + length l.left-iterator.rest.items ≡ length l.fn.lefts.items;
  jobs : l.journal.items ++ all_jobs l.row l.left-iterator.rest.items ≡ l.fn.journal.items ++ all_jobs 0 l.fn.lefts.items;
}
