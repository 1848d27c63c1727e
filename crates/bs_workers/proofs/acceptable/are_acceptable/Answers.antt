-- One more act is acceptable.
use Rattle.std.proofs.Common.{take}
use Rattle.std.specs.Prelude.{fold}
use Rattle.bs_workers.specs.Acts.{opened, registry_after}
use Rattle.bs_workers.proofs.OpenRows.{one_followed}
use Rattle.bs_workers.proofs.acceptable.are_acceptable.Goals as goal

pub loop-act-preserved : goal.loop-act-preserved
loop-act-preserved g c =
    one_followed _ _ _ _ _ _ _ c.loop-act-test.true c.act-item.is c.loop-act.invariant
    (λ sees. c.in_ok-follow.ensures (fold registry_after (opened c.args.rows.now) (take c.loop-act.act-index c.args.acts.now)) sees c.if-not-branch.false)
