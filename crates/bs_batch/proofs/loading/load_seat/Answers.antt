use Rattle.std.proofs.Common.{arith, length, ◌*◌, ◌/◌, ◌+◌, ◌-◌}
use Rattle.bs_batch.proofs.LoadedSeat.{seat_loaded}
use Rattle.bs_batch.proofs.loading.load_seat.Goals as goal

pub returns-clause-board : goal.returns-clause-board
returns-clause-board c =
    seat_loaded c.args.seat (c.args.seat * (length c.args.bodies.now / 8) + length c.args.bodies.now / 8 - c.args.seat * (length c.args.bodies.now / 8)) c.args.snake.now
    c.args.head.now c.args.bodies.now c.args.plane.now c.load_snake.new.seat c.load_snake.new.room c.load_snake.new.plane c.load_snake.result c.requires.seat (omega arith)
    c.load_snake.auto.room c.load_snake.ensures
