use Rattle.std.proofs.lemmas.Result.{err_from_is_err_and}
use Rattle.std.proofs.Common.{arith}
use Rattle.bs_board.proofs.records.BoardRecord.{what_is_read, record_is_read, failed_for_memory, read_if_legal, legal_is_read}
use Rattle.bs_board.proofs.records.decoding.decode.Goals as goal

pub returns-in_err-board-clause-only : goal.returns-in_err-board-clause-only
returns-in_err-board-clause-only c b legal is =
    let p = err_from_is_err_and c.from_residual.result c.from_residual.ensures.1 in
    rw (p.1, p.2) (failed_for_memory c.in_err-board.field-0.0 _ b (record_is_read c.args.bytes.now b legal is) c.in_err-board.ensures)

pub returns-clause-found : goal.returns-clause-found
returns-clause-found c =
    read_if_legal c.args.bytes.now c.in_ok-board.board c.if_legal.result
    (what_is_read c.args.bytes.now c.in_ok-board.board (λ i. omega (arith, c.type_inv.bytes i)) c.in_ok-board.ensures) c.if_legal.ensures

pub returns-clause-only : goal.returns-clause-only
returns-clause-only c b legal is = legal_is_read c.args.bytes.now c.in_ok-board.board b c.if_legal.result legal is c.in_ok-board.ensures c.if_legal.ensures
