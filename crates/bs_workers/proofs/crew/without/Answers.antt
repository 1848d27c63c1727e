-- One more row was tested.
use Rattle.bs_workers.specs.inner.PlayedRows.{is_other}
use Rattle.bs_workers.proofs.PlayedRows.{one_more_of}
use Rattle.bs_workers.proofs.crew.without.Goals as goal

pub loop-row-preserved : goal.loop-row-preserved
loop-row-preserved c =
    one_more_of (is_other c.args.left) c.args.rows.now c.loop-row.row-index 0 _ _ _ c.loop-row-test.true c.is_other.ensures c.loop-row.invariant c.in_ok-put_row.ensures
