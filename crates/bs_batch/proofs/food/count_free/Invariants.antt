use Rattle.std.proofs.Common.{◌≡◌, ◌*◌, ◌≤◌, length}
use Rattle.bs_batch.specs.inner.FreeCells.{ForBytes, clear_cells}
use Rattle.bs_batch.proofs.food.count_free.Given as goal

-- the clear cells of the rows so far
abbrev pub invariant-loop-row : goal.invariant-loop-row
invariant-loop-row l = record {
  few : l.free ≤ l.row * 25;
  count : ForBytes l.settings l.plane (λ byte. l.free ≡ length (clear_cells byte l.settings.width l.row));
}
