use Rattle.std.proofs.Common.{arith, length, ◌*◌, ◌/◌, ◌+◌, ◌-◌}
use Rattle.bs_batch.proofs.Grown.{dead_grows_not, grows_at}
use Rattle.bs_batch.proofs.turns.grow_at.Goals as goal

pub returns-then-head-seat-ne-ALIVE-clause-board : goal.returns-then-head-seat-ne-ALIVE-clause-board
returns-then-head-seat-ne-ALIVE-clause-board c b shows room can within =
    dead_grows_not c.args.seat c.args.head.now c.args.plane.now c.args.bodies.now b shows within c.if-head-seat-ne-ALIVE.true

pub returns-clause-board : goal.returns-clause-board
returns-clause-board c b shows room can within =
    grows_at c.args.seat c.args.head.now c.args.plane.now c.args.bodies.now b
    (c.args.seat * (length c.args.bodies.now / 8) + length c.args.bodies.now / 8 - c.args.seat * (length c.args.bodies.now / 8))
    c.grow_seat.new.state c.grow_seat.new.room c.grow_seat.new.plane c.requires.seat shows room can within (omega arith) c.if-head-seat-ne-ALIVE.false
    c.grow_seat.ensures c.grow_seat.auto.room
