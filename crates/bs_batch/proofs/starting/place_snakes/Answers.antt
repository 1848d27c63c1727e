use Rattle.std.proofs.Common.{◌∙◌, arith, refl}
use Rattle.bs_batch.proofs.StartedAll.{all_placed, next_placed, none_more_placed, none_placed}
use Rattle.bs_batch.proofs.starting.place_snakes.Goals as goal

pub loop-seat-init : goal.loop-seat-init
loop-seat-init c = record { settings = refl; board = none_placed c.args.starts.now c.args.head.now c.args.bodies.now c.args.plane.now }

pub returns-then-not-place_snake-clause-board : goal.returns-then-not-place_snake-clause-board
returns-then-not-place_snake-clause-board c =
    none_more_placed c.args.starts.now c.loop-seat.seat c.args.head.now c.args.bodies.now c.args.plane.now c.loop-seat.head c.loop-seat.bodies c.loop-seat.plane
    c.place_snake.new.head c.place_snake.new.bodies c.place_snake.new.plane c.place_snake.result (omega (arith, c.loop-seat-test.true, c.if-starts-seats.false))
    (omega (arith, c.loop-seat-test.true, c.from-seats.ensures, c.requires.seats)) c.if-not-place_snake.true c.loop-seat.invariant.board c.place_snake.ensures.board

pub loop-seat-preserved : goal.loop-seat-preserved
loop-seat-preserved c = record {
  settings = c.place_snake.ensures.settings ∙ c.loop-seat.invariant.settings;
  board = next_placed c.args.starts.now c.loop-seat.seat c.args.head.now c.args.bodies.now c.args.plane.now c.loop-seat.head c.loop-seat.bodies c.loop-seat.plane
      c.place_snake.new.head c.place_snake.new.bodies c.place_snake.new.plane c.place_snake.result (omega (arith, c.loop-seat-test.true, c.if-starts-seats.false))
      (omega (arith, c.loop-seat-test.true, c.from-seats.ensures, c.requires.seats)) c.if-not-place_snake.false c.loop-seat.invariant.board c.place_snake.ensures.board;
}

pub returns-clause-board : goal.returns-clause-board
returns-clause-board c =
    all_placed c.args.starts.now c.loop-seat.seat c.args.head.now c.args.bodies.now c.args.plane.now c.loop-seat.head c.loop-seat.bodies c.loop-seat.plane
    (omega (arith, c.loop-seat-test.false, c.loop-seat.auto.seat-end, c.if-starts-seats.false)) (c.if-starts-seats.false ∙ c.from-seats.ensures) c.loop-seat.invariant.board
