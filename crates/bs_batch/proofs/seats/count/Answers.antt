use Rattle.bs_batch.proofs.Living.{counted}
use Rattle.bs_batch.proofs.seats.count.Goals as goal

pub returns : goal.returns
returns c = record {
  board = λ b mode shows.
      counted c.args.head.now b c.count_living-head.result c.last_living.result c.from-head.result (c.count_living-head.ensures b.snakes shows)
      (c.last_living.ensures b.mode mode) c.from-head.ensures;
}
