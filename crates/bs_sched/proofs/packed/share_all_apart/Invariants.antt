-- The journals copied so far, then those still to come.
use Rattle.std.proofs.Common.{◌≡◌, ◌++◌, drop}
use Rattle.bs_sched.proofs.packed.share_all_apart.Given as goal

abbrev pub invariant-loop-journal : goal.invariant-loop-journal
invariant-loop-journal l = l.lefts.items ++ drop l.journal-index l.journals ≡ l.fn.journals
