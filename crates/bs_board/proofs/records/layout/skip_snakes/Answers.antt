use Rattle.std.proofs.Common.{arith}
use Rattle.bs_board.proofs.records.Living.{one_skipped}
use Rattle.bs_board.proofs.records.layout.skip_snakes.Goals as goal

pub loop-preserved : goal.loop-preserved
loop-preserved c snakes is fits =
    one_skipped snakes c.loop.counter c.loop.left.now _ c.split_snake.result.0 (let within = c.loop-test.true in omega arith) (c.loop.invariant snakes is fits) c.split_snake.ensures
