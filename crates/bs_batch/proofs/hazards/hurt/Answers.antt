use Rattle.std.proofs.Common.{ℕ, ◌∙◌, arith, rules}
use Rattle.bs_batch.specs.Shown.{ShowsSeats}
use Rattle.bs_batch.specs.Hurting.{hurt_at}
use Rattle.bs_batch.proofs.Hurt.{hurt_keeps_room, hurts_none}
use Rattle.bs_batch.proofs.SoFar.{board_so_far, map_each}
use Rattle.bs_batch.proofs.Steps.{all_changed, one_changed}
use Rattle.bs_batch.proofs.hazards.hurt.Goals as goal

pub returns-then-is_empty-clause-board : goal.returns-then-is_empty-clause-board
returns-then-is_empty-clause-board c b shows room =
    hurts_none c.args.hazards.counts.now c.args.hazards.damage b (ShowsSeats c.args.head.now c.args.plane.now c.args.bodies.now) (search rules) shows

pub loop-seat-preserved : goal.loop-seat-preserved
loop-seat-preserved c = record {
  settings = c.hurt_at.ensures.settings ∙ c.loop-seat.invariant.settings;
  foods = c.hurt_at.ensures.foods ∙ c.loop-seat.invariant.foods;
  board = λ b shows room.
      let counts = c.args.hazards.counts.now in
      let damage = c.args.hazards.damage in
      let f = λ (_ : ℕ). hurt_at counts damage b in
      let now = board_so_far f c.loop-seat.seat b in
      one_changed f c.loop-seat.seat b (omega (arith, c.loop-seat-test.true, c.from-seat-end.ensures, shows.settings.seats))
      c.args.bodies.now c.loop-seat.head c.loop-seat.plane c.hurt_at.new.head c.hurt_at.new.plane (c.loop-seat.invariant.board b shows room)
      (c.hurt_at.ensures.board now) (λ room' within. hurt_keeps_room counts damage now c.loop-seat.seat 0 within room');
}

pub returns-clause-board : goal.returns-clause-board
returns-clause-board c b shows room =
    let f = hurt_at c.args.hazards.counts.now c.args.hazards.damage b in
    let all = all_changed (λ _. f) c.loop-seat.seat c.args.bodies.now c.loop-seat.head c.loop-seat.plane b
    (omega (arith, c.loop-seat-test.false, c.from-seat-end.ensures, shows.settings.seats)) (c.loop-seat.invariant.board b shows room) in
    rw (map_each f b.snakes) at all
