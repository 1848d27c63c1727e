use Rattle.std.proofs.Common.{arith, refl, ◌+◌, ◌-◌, ◌*◌}
use Rattle.bs_batch.proofs.ShownPlanes.{seat_out, seat_plane}
use Rattle.bs_batch.proofs.showing.show_seat.Goals as goal

pub returns-then-head-seat-ne-ALIVE : goal.returns-then-head-seat-ne-ALIVE
returns-then-head-seat-ne-ALIVE c = seat_out c.args.head.now c.args.bodies.now c.args.seat c.args.area c.args.into.now c.if-head-seat-ne-ALIVE.true

pub returns : goal.returns
returns c =
    seat_plane c.args.head.now c.args.bodies.now c.args.seat c.args.area ((c.args.seat + 1) * c.args.area) ((c.args.seat + 1) * c.args.area + c.args.area - (c.args.seat + 1) * c.args.area)
    c.args.into.now c.put_body.new.plane c.body_of-body.result.now c.if-head-seat-ne-ALIVE.false refl (omega arith) (omega arith) c.put_body.auto.plane c.body_of-body.ensures
    c.put_body.ensures
