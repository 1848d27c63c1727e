use Rattle.std.proofs.Common.{◌+◌, ◌/◌}
use Rattle.bs_pool.proofs.Marks.{MarksBelow}
use Rattle.bs_pool.proofs.words.new_words.Given as goal

abbrev pub invariant-loop-number : goal.invariant-loop-number
invariant-loop-number l = MarksBelow l.words.items ((l.n + 63) / 64) l.number
