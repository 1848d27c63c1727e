use Rattle.bs_batch.proofs.Saved.{snake_written}
use Rattle.bs_batch.proofs.saving.put_snake.Goals as goal

pub returns : goal.returns
returns c =
    snake_written c.args.head.now c.args.bodies.now c.args.seat c.args.at c.put_seat-start.result c.put_cells.result c.body_of.result.now c.args.into.now
    c.put_seat-start.new.into c.put_cells.new.into c.body_of.ensures c.put_seat-start.ensures c.put_cells.ensures
