use Rattle.std.proofs.Common.{◌≡◌}
use Rattle.bs_food.specs.inner.Marks.{unmarked}
use Rattle.bs_food.proofs.free.unmarked.Given as goal

-- the rows done so far
abbrev pub invariant-loop-row : goal.invariant-loop-row
invariant-loop-row l = l.free.items ≡ unmarked l.width l.row l.taken
