use Rattle.bs_batch.proofs.Collided.{puts_none_out, puts_out}
use Rattle.bs_batch.proofs.collisions.put_out.Goals as goal

pub returns-then-verdict-ne-ALIVE-clause-board : goal.returns-then-verdict-ne-ALIVE-clause-board
returns-then-verdict-ne-ALIVE-clause-board c =
    puts_out c.args.head.now c.args.plane.now c.args.bodies.now c.eliminate.new.head c.eliminate.new.plane c.args.seat c.args.verdict
    c.if-verdict-ne-ALIVE.true c.eliminate.ensures.board

pub returns-else-verdict-ne-ALIVE-clause-board : goal.returns-else-verdict-ne-ALIVE-clause-board
returns-else-verdict-ne-ALIVE-clause-board c =
    puts_none_out c.args.head.now c.args.plane.now c.args.bodies.now c.args.seat c.args.verdict c.if-verdict-ne-ALIVE.false
