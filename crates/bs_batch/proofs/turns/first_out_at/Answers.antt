use Rattle.bs_batch.proofs.FirstOut.{dead_stays, none_out, one_out}
use Rattle.bs_batch.proofs.turns.first_out_at.Goals as goal

pub returns-then-cause-ne-ALIVE-clause-board : goal.returns-then-cause-ne-ALIVE-clause-board
returns-then-cause-ne-ALIVE-clause-board c =
    one_out c.args.head.now c.args.plane.now c.args.bodies.now c.args.seat c.first_cause-cause.result c.eliminate.new.head c.eliminate.new.plane
    c.if-head-seat-eq-ALIVE.true c.first_cause-cause.ensures c.if-cause-ne-ALIVE.true c.eliminate.ensures.board

pub returns-else-cause-ne-ALIVE-clause-board : goal.returns-else-cause-ne-ALIVE-clause-board
returns-else-cause-ne-ALIVE-clause-board c =
    none_out c.args.head.now c.args.plane.now c.args.bodies.now c.args.seat c.first_cause-cause.result c.if-cause-ne-ALIVE.false c.first_cause-cause.ensures

pub returns-else-head-seat-eq-ALIVE-clause-board : goal.returns-else-head-seat-eq-ALIVE-clause-board
returns-else-head-seat-eq-ALIVE-clause-board c = dead_stays c.args.head.now c.args.plane.now c.args.bodies.now c.args.seat c.if-head-seat-eq-ALIVE.false
