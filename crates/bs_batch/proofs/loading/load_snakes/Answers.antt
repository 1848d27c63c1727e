use Rattle.std.proofs.Common.{◌∙◌, arith, refl}
use Rattle.bs_batch.proofs.LoadedAll.{all_loaded, next_loaded, none_loaded, none_more_loaded}
use Rattle.bs_batch.proofs.loading.load_snakes.Goals as goal

pub loop-seat-init : goal.loop-seat-init
loop-seat-init c = record { settings = refl; board = none_loaded c.args.snakes.now c.args.head.now c.args.bodies.now c.args.plane.now }

pub returns-then-not-load_seat-clause-board : goal.returns-then-not-load_seat-clause-board
returns-then-not-load_seat-clause-board c =
    none_more_loaded c.args.snakes.now c.loop-seat.seat c.args.head.now c.args.bodies.now c.args.plane.now c.loop-seat.head c.loop-seat.bodies c.loop-seat.plane
    c.load_seat.new.head c.load_seat.new.bodies c.load_seat.new.plane c.load_seat.result c.index-snakes-seat.result c.loop-seat-test.true c.index-snakes-seat.is
    c.if-not-load_seat.true c.loop-seat.invariant.board c.load_seat.ensures.board

pub loop-seat-preserved : goal.loop-seat-preserved
loop-seat-preserved c = record {
  settings = c.load_seat.ensures.settings ∙ c.loop-seat.invariant.settings;
  board = next_loaded c.args.snakes.now c.loop-seat.seat c.args.head.now c.args.bodies.now c.args.plane.now c.loop-seat.head c.loop-seat.bodies c.loop-seat.plane
      c.load_seat.new.head c.load_seat.new.bodies c.load_seat.new.plane c.load_seat.result c.index-snakes-seat.result c.loop-seat-test.true c.index-snakes-seat.is
      c.if-not-load_seat.false c.loop-seat.invariant.board c.load_seat.ensures.board;
}

pub returns-clause-board : goal.returns-clause-board
returns-clause-board c =
    all_loaded c.args.snakes.now c.loop-seat.seat c.args.head.now c.args.bodies.now c.args.plane.now c.loop-seat.head c.loop-seat.bodies c.loop-seat.plane
    (omega (arith, c.loop-seat-test.false, c.loop-seat.auto.seat-end)) c.loop-seat.invariant.board
