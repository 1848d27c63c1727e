use Rattle.std.proofs.Common.{◌≡◌, ℕ, ◌+◌, ◌<◌, ◌∙◌, length, arith, true}
use Rattle.std.specs.Prelude.{is_some}
use Rattle.bs_board.specs.declared.boards.snake.Snake.{Snake}
use Rattle.bs_rules.specs.Collision.{collision_verdict, snake_at}
use Rattle.bs_rules.specs.Elimination.{judged}
use Rattle.bs_board.specs.boards.Over.{is_living}
use Rattle.bs_batch.proofs.Collided.{judged_from, judged_keeps_room}
use Rattle.bs_batch.proofs.Judged.{judged_lives}
use Rattle.bs_batch.proofs.SoFar.{board_so_far, next_so_far}
use Rattle.bs_batch.proofs.Steps.{all_changed, one_changed}
use Rattle.bs_batch.proofs.collisions.collide.Goals as goal

pub returns-then-are_all_alone-clause-board : goal.returns-then-are_all_alone-clause-board
returns-then-are_all_alone-clause-board c b shows room =
    rw (c.are_all_alone.ensures b shows room c.if-are_all_alone.true) shows

pub loop-seat-preserved : goal.loop-seat-preserved
loop-seat-preserved c = record {
  settings = c.put_out.ensures.settings ∙ c.loop-seat.invariant.settings;
  foods = c.put_out.ensures.foods ∙ c.loop-seat.invariant.foods;
  board = λ b shows room.
      let i = c.loop-seat.seat in
      let f = λ (seat : ℕ) (s : Snake). judged (b.turn + 1) (collision_verdict b.snakes seat) s in
      let now = board_so_far f i b in
      let inside : i < length b.snakes = omega (arith, c.loop-seat-test.true, c.from-seat-end.ensures, shows.settings.seats) in
      let few = c.requires.seats in
      let is = c.judge-verdicts.ensures i (omega (arith, inside, shows.settings.seats)) b.width b.height b.snakes
      (judged_from c.args.head.now c.args.plane.now c.args.bodies.now b 0 shows room few) inside in
      let lives : is_some (collision_verdict b.snakes i) ≡ true → is_living (snake_at now.snakes i) ≡ true =
      λ some. let P : Snake → Type 0 = λ s. is_living s ≡ true in rw (next_so_far f i b.snakes inside) (judged_lives b.snakes i some) in
      one_changed f i b inside c.args.bodies.now c.loop-seat.head c.loop-seat.plane c.put_out.new.head c.put_out.new.plane (c.loop-seat.invariant.board b shows room)
      (λ shows' room' within. c.put_out.ensures.board now (collision_verdict b.snakes i) is shows' room' within lives)
      (λ room' within. judged_keeps_room now i (collision_verdict b.snakes i) within lives room');
}

pub returns-clause-board : goal.returns-clause-board
returns-clause-board c b shows room =
    all_changed (λ (seat : ℕ) (s : Snake). judged (b.turn + 1) (collision_verdict b.snakes seat) s) c.loop-seat.seat c.args.bodies.now c.loop-seat.head c.loop-seat.plane b
    (omega (arith, c.loop-seat-test.false, c.from-seat-end.ensures, shows.settings.seats)) (c.loop-seat.invariant.board b shows room)
