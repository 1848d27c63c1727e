-- The rows so far.
use Rattle.std.proofs.Common.{◌≡◌, take}
use Rattle.std.specs.List.{filter}
use Rattle.bs_workers.specs.inner.PlayedRows.{is_other}
use Rattle.bs_workers.proofs.crew.without.Given as goal

abbrev pub invariant-loop-row : goal.invariant-loop-row
invariant-loop-row l = l.others.items ≡ filter (is_other l.left) (take l.row-index l.rows)
