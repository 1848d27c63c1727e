use Rattle.std.proofs.Common.{ap, length, arith}
use Rattle.bs_board.proofs.records.Longest.{legal_size}
use Rattle.bs_json.proofs.LineBounds.{board_bound}
use Rattle.bs_json.proofs.line_bounds.board_bound.Goals as goal

pub overflow_mul-result : goal.overflow_mul-result
overflow_mul-result c = let size = legal_size c.args.board.now c.record.ensures.legal in omega (arith, ap length c.record.ensures.value)

pub overflow_add-result : goal.overflow_add-result
overflow_add-result c = let size = legal_size c.args.board.now c.record.ensures.legal in omega (arith, ap length c.record.ensures.value)

pub returns-clause-bound : goal.returns-clause-bound
returns-clause-bound c = let text = board_bound c.args.board.now c.record.ensures.legal in omega (arith, ap length c.record.ensures.value)

pub returns-clause-small : goal.returns-clause-small
returns-clause-small c = let size = legal_size c.args.board.now c.record.ensures.legal in omega (arith, ap length c.record.ensures.value)
