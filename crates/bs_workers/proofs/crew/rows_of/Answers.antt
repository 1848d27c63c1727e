-- One more row was tested.
use Rattle.std.proofs.Common.{false}
use Rattle.std.specs.Prelude.{slice_index_or}
use Rattle.bs_workers.specs.inner.PlayedRows.{is_among}
use Rattle.bs_workers.proofs.PlayedRows.{one_more_number}
use Rattle.bs_workers.proofs.crew.rows_of.Goals as goal

pub loop-row-preserved : goal.loop-row-preserved
loop-row-preserved c =
    one_more_number (λ row. is_among c.args.leaving (slice_index_or c.args.leaves.now row false)) c.loop-row.row _ _ _ c.is_among.ensures c.loop-row.invariant c.in_ok-put_row.ensures
