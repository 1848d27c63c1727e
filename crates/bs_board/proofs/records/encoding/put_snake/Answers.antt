use Rattle.bs_board.proofs.records.Parts.{puts_snake}
use Rattle.bs_board.proofs.records.encoding.put_snake.Goals as goal

pub returns : goal.returns
returns c =
    let body = rw c.as_slice.ensures at c.put_cells.ensures in
    puts_snake c.args.snake.now c.state_bytes.result _ _ _ _ _ _ _ _ c.state_bytes.ensures c.put_id-next.ensures c.put-next.ensures body
