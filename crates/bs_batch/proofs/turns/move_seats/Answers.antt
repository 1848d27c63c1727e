use Rattle.std.proofs.Common.{◌∙◌, arith, refl}
use Rattle.bs_batch.proofs.MovedAll.{all_moved, none_moved, one_moved}
use Rattle.bs_batch.proofs.turns.move_seats.Goals as goal

pub loop-seat-init : goal.loop-seat-init
loop-seat-init c = record { settings = refl; foods = refl; board = none_moved c.args.moves.now c.args.head.now c.args.bodies.now c.args.plane.now }

pub loop-seat-preserved : goal.loop-seat-preserved
loop-seat-preserved c = record {
  settings = c.move_at-any.ensures.settings ∙ c.loop-seat.invariant.settings;
  foods = c.move_at-any.ensures.foods ∙ c.loop-seat.invariant.foods;
  board = λ b shows room can.
      one_moved c.args.moves.now c.loop-seat.seat b (omega (arith, c.loop-seat-test.true, c.from-seat-end.ensures, shows.settings.seats))
      (omega (arith, c.loop-seat-test.true, c.from-seat-end.ensures, c.requires.seats)) c.loop-seat.head c.args.bodies.now c.loop-seat.bodies c.loop-seat.plane
      c.move_at-any.new.head c.move_at-any.new.bodies c.move_at-any.new.plane c.given_to-given.result c.loop-seat.any c.move_at-any.result c.given_to-given.ensures room
      (can c.loop-seat.seat) (c.loop-seat.invariant.board b shows room can) c.move_at-any.ensures.board;
}

pub returns-clause-board : goal.returns-clause-board
returns-clause-board c b shows room can =
    all_moved c.args.moves.now c.loop-seat.seat b c.loop-seat.head c.args.bodies.now c.loop-seat.bodies c.loop-seat.plane c.loop-seat.any
    (omega (arith, c.loop-seat-test.false, c.loop-seat.auto.seat-end, c.from-seat-end.ensures, shows.settings.seats))
    (omega (arith, c.loop-seat.auto.seat-end, c.from-seat-end.ensures, c.requires.seats)) (c.loop-seat.invariant.board b shows room can)
