use Rattle.std.proofs.Common.{◌≡◌}
use Rattle.bs_board.specs.declared.boards.snake.Cause.TheVariants.{BodyCollision}
use Rattle.bs_rules.specs.Collision.{killer_among}
use Rattle.bs_batch.specs.Shown.{seat_byte}
use Rattle.bs_batch.specs.inner.Collisions.{ForJudged}
use Rattle.bs_batch.proofs.collisions.body_killer.Given as goal

-- the killer among the seats so far
abbrev pub invariant-loop-other : goal.invariant-loop-other
invariant-loop-other l = ForJudged l.head l.bodies l.seat l.cell (λ snakes. l.killer ≡ seat_byte (killer_among l.other snakes l.seat BodyCollision))
