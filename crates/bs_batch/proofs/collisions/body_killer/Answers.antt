use Rattle.std.proofs.Common.{ap, ◌≡◌, ◌<◌, ◌∙◌, arith, length, sym}
use Rattle.bs_board.specs.declared.boards.snake.Cause.TheVariants.{BodyCollision}
use Rattle.bs_rules.specs.Collision.{killer_among}
use Rattle.bs_rules.proofs.Killers.{killer_among_none}
use Rattle.bs_batch.specs.Shown.{seat_byte}
use Rattle.bs_batch.proofs.Judged.{next_killer}
use Rattle.bs_batch.proofs.collisions.body_killer.Goals as goal

pub loop-other-init : goal.loop-other-init
loop-other-init c width height snakes shows within alive is = ap seat_byte (sym (killer_among_none snakes c.args.seat BodyCollision))

pub loop-other-preserved : goal.loop-other-preserved
loop-other-preserved c width height snakes shows within alive is =
    let inside : c.loop-other.other < length snakes = omega (arith, c.loop-other-test.true, c.from-other-end.ensures, shows.seats) in
    next_killer c.args.head.now c.args.bodies.now width height snakes shows c.args.seat c.loop-other.other c.loop-other.killer c.longer_of-killer.result BodyCollision
    c.hits_body-hit.result inside (c.loop-other.invariant width height snakes shows within alive is) (c.hits_body-hit.ensures width height snakes shows within alive is inside) c.longer_of-killer.ensures

pub returns : goal.returns
returns c width height snakes shows within alive is =
    let all : c.loop-other.other ≡ length snakes = omega (arith, c.loop-other-test.false, c.loop-other.auto.other-end, c.from-other-end.ensures, shows.seats) in
    c.loop-other.invariant width height snakes shows within alive is ∙ ap (λ n. seat_byte (killer_among n snakes c.args.seat BodyCollision)) all
