-- One more act, which may admit a row.
use Rattle.bs_workers.proofs.ListedStays.{one_more_row}
use Rattle.bs_workers.proofs.stays.rows_of.Goals as goal

pub loop-act-preserved : goal.loop-act-preserved
loop-act-preserved c = one_more_row _ _ _ _ _ _ c.loop-act-test.true c.act-item.is c.loop-act.invariant c.in_ok-put_admitted.ensures
