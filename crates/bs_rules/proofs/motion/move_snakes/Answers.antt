use Rattle.std.proofs.Common.{◌≡◌, ap, rules, ◌∙◌}
use Rattle.bs_modes.proofs.InPlace.{set_next}
use Rattle.bs_rules.specs.Motion.{moved, given_to}
use Rattle.bs_rules.proofs.motion.move_snakes.Goals as goal

pub loop-seat-preserved : goal.loop-seat-preserved
loop-seat-preserved c =
    let snake = c.seat_mut-snake.result.now in
    let given : c.direction_for-given.result ≡ given_to c.args.moves.now snake.id = search rules in
    set_next (λ s. moved c.args.wrap (given_to c.args.moves.now s.id) s) c.args.snakes.now c.loop-seat.snakes c.loop-seat.seat snake c.step_snake.new.snake
    c.loop-seat.invariant c.seat_mut-snake.ensures.value (c.step_snake.ensures ∙ ap (λ g. moved c.args.wrap g snake) given)
