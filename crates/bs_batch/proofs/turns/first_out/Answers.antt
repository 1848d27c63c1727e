use Rattle.std.proofs.Common.{ℕ, ◌∙◌, arith}
use Rattle.bs_batch.specs.inner.Eliminations.{starved_or_outside_at}
use Rattle.bs_batch.proofs.FirstOut.{first_out_keeps_room}
use Rattle.bs_batch.proofs.SoFar.{board_so_far, map_each}
use Rattle.bs_batch.proofs.Steps.{all_changed, one_changed}
use Rattle.bs_batch.proofs.turns.first_out.Goals as goal

pub loop-seat-preserved : goal.loop-seat-preserved
loop-seat-preserved c = record {
  settings = c.first_out_at.ensures.settings ∙ c.loop-seat.invariant.settings;
  foods = c.first_out_at.ensures.foods ∙ c.loop-seat.invariant.foods;
  board = λ b shows room.
      let f = λ (_ : ℕ). starved_or_outside_at b in
      let now = board_so_far f c.loop-seat.seat b in
      one_changed f c.loop-seat.seat b (omega (arith, c.loop-seat-test.true, c.from-seat-end.ensures, shows.settings.seats))
      c.args.bodies.now c.loop-seat.head c.loop-seat.plane c.first_out_at.new.head c.first_out_at.new.plane (c.loop-seat.invariant.board b shows room)
      (c.first_out_at.ensures.board now) (λ room' within. first_out_keeps_room now c.loop-seat.seat 0 within room');
}

pub returns-clause-board : goal.returns-clause-board
returns-clause-board c b shows room =
    let all = all_changed (λ _. starved_or_outside_at b) c.loop-seat.seat c.args.bodies.now c.loop-seat.head c.loop-seat.plane b
    (omega (arith, c.loop-seat-test.false, c.from-seat-end.ensures, shows.settings.seats)) (c.loop-seat.invariant.board b shows room) in
    rw (map_each (starved_or_outside_at b) b.snakes) at all
