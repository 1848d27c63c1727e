-- The rows so far.
use Rattle.std.proofs.Common.{◌≡◌, false}
use Rattle.std.specs.Prelude.{slice_index_or}
use Rattle.std.specs.List.{filter, range_with_len}
use Rattle.bs_workers.specs.inner.PlayedRows.{is_among}
use Rattle.bs_workers.proofs.crew.rows_of.Given as goal

abbrev pub invariant-loop-row : goal.invariant-loop-row
invariant-loop-row l = l.rows.items ≡ filter (λ row. is_among l.leaving (slice_index_or l.leaves row false)) (range_with_len 0 l.row)
