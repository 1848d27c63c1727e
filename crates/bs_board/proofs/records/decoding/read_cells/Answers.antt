use Rattle.std.proofs.Common.{arith}
use Rattle.std.proofs.lemmas.Result.{err_from_is_err_and}
use Rattle.bs_board.specs.inner.Decoder.{read_cell, read_many}
use Rattle.bs_board.proofs.records.Repeats.{goes_on, ends, is_done}
use Rattle.bs_board.proofs.records.decoding.read_cells.Goals as goal

pub returns-in_err-cell : goal.returns-in_err-cell
returns-in_err-cell c =
    let p = err_from_is_err_and c.from_residual-in_err-cell.result c.from_residual-in_err-cell.ensures.1 in
    rw (p.1, p.2)
    (ends (read_cell c.args.raised) c.in_err-cell.field-0.0 c.loop.cells.items c.args.count c.loop.counter c.loop.rest.now (read_many (read_cell c.args.raised) c.args.count c.args.bytes.now)
    c.loop-test.true c.in_err-cell.ensures c.loop.invariant.so_far)

pub loop-preserved : goal.loop-preserved
loop-preserved c = record {
  so_far =
      goes_on (read_cell c.args.raised) c.loop.cells.items c.push_reserved.new.self.items c.args.count c.loop.counter c.loop.rest.now c.in_ok-cell.cell c.in_ok-cell.after.now
      (read_many (read_cell c.args.raised) c.args.count c.args.bytes.now) c.push_reserved.ensures.items c.loop-test.true c.in_ok-cell.ensures c.loop.invariant.so_far;
  room = omega arith;
}

pub returns : goal.returns
returns c =
    rw c.from_vec.ensures
    (is_done (read_cell c.args.raised) c.loop.cells.items c.args.count c.loop.counter c.loop.rest.now (read_many (read_cell c.args.raised) c.args.count c.args.bytes.now) c.loop-test.false
    c.loop.invariant.so_far)
