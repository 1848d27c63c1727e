use Rattle.std.proofs.Common.{◌∙◌, arith, refl}
use Rattle.bs_batch.proofs.GrownAll.{all_grown, none_grown, one_grown}
use Rattle.bs_batch.proofs.turns.grow.Goals as goal

pub loop-seat-init : goal.loop-seat-init
loop-seat-init c = record { settings = refl; foods = refl; board = none_grown c.args.head.now c.args.bodies.now c.args.plane.now }

pub loop-seat-preserved : goal.loop-seat-preserved
loop-seat-preserved c = record {
  settings = c.grow_at.ensures.settings ∙ c.loop-seat.invariant.settings;
  foods = c.grow_at.ensures.foods ∙ c.loop-seat.invariant.foods;
  board = λ b shows room can.
      one_grown c.loop-seat.seat b (omega (arith, c.loop-seat-test.true, c.from-seat-end.ensures, shows.settings.seats))
      (omega (arith, c.loop-seat-test.true, c.from-seat-end.ensures, c.requires.seats)) c.loop-seat.head c.args.bodies.now c.loop-seat.bodies c.loop-seat.plane
      c.grow_at.new.head c.grow_at.new.bodies c.grow_at.new.plane (can c.loop-seat.seat) (c.loop-seat.invariant.board b shows room can) c.grow_at.ensures.board;
}

pub returns-clause-board : goal.returns-clause-board
returns-clause-board c b shows room can =
    all_grown c.loop-seat.seat b c.loop-seat.head c.args.bodies.now c.loop-seat.bodies c.loop-seat.plane
    (omega (arith, c.loop-seat-test.false, c.loop-seat.auto.seat-end, c.from-seat-end.ensures, shows.settings.seats))
    (c.loop-seat.invariant.board b shows room can)
