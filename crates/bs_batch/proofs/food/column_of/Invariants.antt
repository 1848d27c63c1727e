use Rattle.std.proofs.Common.{◌≡◌, ◌+◌, count_by, take}
use Rattle.bs_batch.specs.inner.FreeCells.{is_zero}
use Rattle.bs_batch.proofs.food.column_of.Given as goal

-- the zeros so far and those that are left
abbrev pub invariant-loop-column : goal.invariant-loop-column
invariant-loop-column l = l.left + count_by is_zero (take l.column l.row) ≡ l.number
