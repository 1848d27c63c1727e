-- One more act.
use Rattle.bs_workers.proofs.ListedStays.{one_more_fits, one_more_step}
use Rattle.bs_workers.proofs.stays.order_of.Goals as goal

pub loop-act-preserved : goal.loop-act-preserved
loop-act-preserved c = (
  one_more_step _ _ _ _ _ _ c.loop-act-test.true c.act-item.is c.in_ok-put_step.ensures c.in_ok-step_of.ensures.step c.loop-act.invariant.0,
  one_more_fits _ _ _ c.loop-act-test.true c.act-item.is c.keeps_limits.ensures c.loop-act.invariant.1,
)
