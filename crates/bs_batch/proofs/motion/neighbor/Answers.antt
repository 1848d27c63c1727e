use Rattle.bs_batch.proofs.Neighbors.{steps_wrapped}
use Rattle.bs_batch.proofs.motion.neighbor.Goals as goal

pub returns-then-settings-eq-WRAPPED : goal.returns-then-settings-eq-WRAPPED
returns-then-settings-eq-WRAPPED c =
    steps_wrapped c.args.settings.now c.args.cell c.args.direction c.one_step-next.result c.on_torus.result c.if-settings-eq-WRAPPED.true
    c.one_step-next.ensures c.on_torus.ensures
