use Rattle.std.proofs.Common.{arith}
use Rattle.bs_batch.proofs.Saved.{all_saved, food_saved, snake_saved}
use Rattle.bs_batch.proofs.saving.save.Goals as goal

pub loop-seat-init : goal.loop-seat-init
loop-seat-init c =
    food_saved c.args.head.now c.args.food.now c.args.bodies.now c.min-count.result c.put_head-at.result c.put_cells-end.result c.put_head-at.new.into c.put_cells-end.new.into
    (omega arith) c.put_head-at.ensures c.put_cells-end.ensures

pub loop-seat-preserved : goal.loop-seat-preserved
loop-seat-preserved c =
    snake_saved c.args.head.now c.args.food.now c.args.bodies.now c.loop-seat.seat c.loop-seat.end c.put_snake-end.result c.loop-seat.into c.put_snake-end.new.into
    (omega (arith, c.loop-seat-test.true, c.from-seat-end.ensures)) c.loop-seat.invariant c.put_snake-end.ensures

pub returns : goal.returns
returns c =
    all_saved c.args.head.now c.args.food.now c.args.bodies.now c.loop-seat.seat c.loop-seat.end c.loop-seat.into
    (omega (arith, c.loop-seat-test.false, c.loop-seat.auto.seat-end, c.from-seat-end.ensures)) c.loop-seat.invariant
