use Rattle.std.proofs.Common.{arith, length, ◌*◌, ◌/◌, ◌+◌, ◌-◌}
use Rattle.bs_batch.proofs.MovedAt.{dead_stays_at, moves_at}
use Rattle.bs_batch.proofs.turns.move_at.Goals as goal

pub returns-then-head-seat-ne-ALIVE-clause-board : goal.returns-then-head-seat-ne-ALIVE-clause-board
returns-then-head-seat-ne-ALIVE-clause-board c b shows room can within =
    dead_stays_at c.args.seat c.args.given c.args.head.now c.args.plane.now c.args.bodies.now b shows within c.if-head-seat-ne-ALIVE.true

pub returns-clause-board : goal.returns-clause-board
returns-clause-board c b shows room can within =
    moves_at c.args.seat c.args.given c.args.head.now c.args.plane.now c.args.bodies.now b c.requires.seat shows room can within
    (c.args.seat * (length c.args.bodies.now / 8) + length c.args.bodies.now / 8 - c.args.seat * (length c.args.bodies.now / 8)) c.move_seat-next.result
    c.move_seat-next.new.seat c.feed_seat.new.seat c.move_seat-next.new.room c.feed_seat.new.room c.move_seat-next.new.plane c.feed_seat.new.plane c.feed_seat.result
    (omega arith) c.if-head-seat-ne-ALIVE.false c.move_seat-next.ensures c.move_seat-next.auto.room c.feed_seat.ensures c.feed_seat.auto.room
