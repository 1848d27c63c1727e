use Rattle.std.proofs.Common.{◌≡◌, ◌+◌, length}
use Rattle.bs_batch.specs.inner.FreeCells.{ForBytes, clear_cells}
use Rattle.bs_batch.proofs.food.free_cell.Given as goal

-- the clear cells of the rows so far and those that are left
abbrev pub invariant-loop-row : goal.invariant-loop-row
invariant-loop-row l = ForBytes l.settings l.plane (λ byte. l.left + length (clear_cells byte l.settings.width l.row) ≡ l.number)
