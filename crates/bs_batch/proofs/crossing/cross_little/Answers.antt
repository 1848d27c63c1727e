use Rattle.std.proofs.Common.{arith, length, ap, refl}
use Rattle.bs_batch.proofs.CrossingAll.{next_crosses, none_refused}
use Rattle.bs_batch.proofs.crossing.cross_little.Goals as goal

pub returns-then-not-crosses_little : goal.returns-then-not-crosses_little
returns-then-not-crosses_little c b legal same = (
  λ t. absurd cc,
  λ all. absurd (none_refused b legal c.args.snakes.now same c.loop-snake.snake-index c.snake-item.result c.crosses_little.result c.loop-snake-test.true c.snake-item.is
      c.crosses_little.ensures c.if-not-crosses_little.true all),
)

pub loop-snake-preserved : goal.loop-snake-preserved
loop-snake-preserved c b legal same =
    next_crosses b legal c.args.snakes.now same c.loop-snake.snake-index c.snake-item.result c.crosses_little.result c.loop-snake-test.true c.snake-item.is
    c.crosses_little.ensures c.if-not-crosses_little.false (c.loop-snake.invariant b legal same)

pub returns : goal.returns
returns c b legal same =
    (λ _ k d within. let n = ap length same in c.loop-snake.invariant b legal same k d (omega (arith, n, within, c.loop-snake-test.false)), λ _. refl)
