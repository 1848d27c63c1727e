-- The journals taken apart so far, then those still to come.
use Rattle.std.proofs.Common.{◌≡◌, ◌++◌}
use Rattle.bs_sched.proofs.packed.take_all_apart.Given as goal

abbrev pub invariant-loop-journal : goal.invariant-loop-journal
invariant-loop-journal l = l.lefts.items ++ l.journal-iterator.rest.items ≡ l.fn.journals.items
