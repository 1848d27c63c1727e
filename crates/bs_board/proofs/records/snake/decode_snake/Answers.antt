use Rattle.std.proofs.lemmas.Result.{err_from_is_err_and}
use Rattle.std.proofs.Common.{arith}
use Rattle.bs_board.proofs.records.FitSnake.{what_is_read, snake_is_read, failed_for_memory, read_if_fit, fit_is_read}
use Rattle.bs_board.proofs.records.snake.decode_snake.Goals as goal

pub returns-in_err-snake-clause-only : goal.returns-in_err-snake-clause-only
returns-in_err-snake-clause-only c s fit is =
    let p = err_from_is_err_and c.from_residual.result c.from_residual.ensures.1 in
    rw (p.1, p.2) (failed_for_memory c.in_err-snake.field-0.0 _ s (snake_is_read c.args.bytes.now s fit is) c.in_err-snake.ensures)

pub returns-clause-found : goal.returns-clause-found
returns-clause-found c =
    read_if_fit c.args.bytes.now c.in_ok-snake.snake c.if_fit.result
    (what_is_read c.args.bytes.now c.in_ok-snake.snake (λ i. omega (arith, c.type_inv.bytes i)) c.in_ok-snake.ensures) c.if_fit.ensures

pub returns-clause-only : goal.returns-clause-only
returns-clause-only c s fit is = fit_is_read c.args.bytes.now c.in_ok-snake.snake s c.if_fit.result fit is c.in_ok-snake.ensures c.if_fit.ensures
