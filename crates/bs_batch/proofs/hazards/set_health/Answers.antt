use Rattle.bs_batch.proofs.Hurt.{keeps_health, loses_health}
use Rattle.bs_batch.proofs.hazards.set_health.Goals as goal

pub returns-then-health-eq0-clause-board : goal.returns-then-health-eq0-clause-board
returns-then-health-eq0-clause-board c b shows room within alive =
    loses_health b c.args.seat c.args.health within c.args.head.now c.args.plane.now c.args.bodies.now c.eliminate.new.head c.eliminate.new.plane c.requires.seat
    c.if-health-eq0.true c.eliminate.ensures.board shows room alive

pub returns-else-health-eq0-clause-board : goal.returns-else-health-eq0-clause-board
returns-else-health-eq0-clause-board c b shows room within alive =
    keeps_health b c.args.seat c.args.health within c.args.head.now c.args.plane.now c.args.bodies.now c.requires.seat c.if-health-eq0.false shows
