use Rattle.bs_batch.proofs.Hurt.{dead_stays, full_stays, off_stays, one_hurt}
use Rattle.bs_batch.proofs.hazards.hurt_at.Goals as goal

pub returns-then-state-ne-ALIVE-clause-board : goal.returns-then-state-ne-ALIVE-clause-board
returns-then-state-ne-ALIVE-clause-board c b shows room within =
    dead_stays c.args.hazards.counts.now c.args.hazards.damage b c.args.seat c.args.head.now c.args.plane.now c.args.bodies.now shows within c.if-state-ne-ALIVE.true

pub returns-then-state-eq-FULL_HEALTH-clause-board : goal.returns-then-state-eq-FULL_HEALTH-clause-board
returns-then-state-eq-FULL_HEALTH-clause-board c b shows room within =
    full_stays c.args.hazards.counts.now c.args.hazards.damage b c.args.seat c.args.head.now c.args.plane.now c.args.bodies.now shows within
    c.if-state-eq-FULL_HEALTH.true

pub returns-then-count-eq0-clause-board : goal.returns-then-count-eq0-clause-board
returns-then-count-eq0-clause-board c b shows room within =
    off_stays c.args.hazards.counts.now c.args.hazards.damage b c.args.seat c.args.head.now c.args.plane.now c.args.bodies.now shows within room
    c.head_of-cell.result c.count_at-count.result c.body_of.result.now c.count_at-count.ensures c.head_of-cell.ensures c.body_of.ensures c.if-count-eq0.true

pub returns-clause-board : goal.returns-clause-board
returns-clause-board c b shows room within =
    one_hurt c.args.hazards.counts.now c.args.hazards.damage b c.args.seat c.args.head.now c.args.plane.now c.args.bodies.now shows within room
    c.head_of-cell.result c.count_at-count.result c.body_of.result.now c.count_at-count.ensures c.head_of-cell.ensures c.body_of.ensures
    c.health_after-health.result c.set_health.new.head c.set_health.new.plane c.if-state-ne-ALIVE.false c.if-state-eq-FULL_HEALTH.false c.if-count-eq0.false
    c.health_after-health.ensures c.set_health.ensures.board
