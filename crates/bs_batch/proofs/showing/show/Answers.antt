use Rattle.std.proofs.Common.{arith, length}
use Rattle.bs_batch.proofs.ShownPlanes.{all_shown, food_first, seat_next}
use Rattle.bs_batch.proofs.showing.show.Goals as goal

pub loop-seat-init : goal.loop-seat-init
loop-seat-init c =
    food_first c.args.head.now c.args.food.now c.args.bodies.now c.from.result c.from-2.result (length c.args.into.now) c.clear_plane.new.plane c.show_food.new.into c.from.ensures
    c.from-2.ensures c.clear_plane.ensures
    c.show_food.ensures

pub loop-seat-preserved : goal.loop-seat-preserved
loop-seat-preserved c =
    seat_next c.args.head.now c.args.food.now c.args.bodies.now c.from.result c.from-2.result c.loop-seat.seat c.loop-seat.into c.show_seat.new.into c.from.ensures
    c.from-2.ensures
    (omega (arith, c.loop-seat-test.true, c.from-seat-end.ensures)) c.show_seat.ensures c.loop-seat.invariant

pub returns : goal.returns
returns c =
    all_shown c.args.head.now c.args.food.now c.args.bodies.now c.loop-seat.seat c.loop-seat.into
    (omega (arith, c.loop-seat-test.false, c.loop-seat.auto.seat-end, c.from-seat-end.ensures)) c.loop-seat.invariant
