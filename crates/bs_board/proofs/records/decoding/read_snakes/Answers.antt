use Rattle.std.proofs.Common.{arith}
use Rattle.std.proofs.lemmas.Result.{err_from_is_err_and}
use Rattle.std.specs.Str.{is_utf8}
use Rattle.bs_board.specs.inner.Decoder.{read_snake, read_many}
use Rattle.bs_board.proofs.records.Repeats.{goes_on, ends, is_done}
use Rattle.bs_board.proofs.records.decoding.read_snakes.Goals as goal

pub returns-in_err-snake : goal.returns-in_err-snake
returns-in_err-snake c =
    let p = err_from_is_err_and c.from_residual-in_err-snake.result c.from_residual-in_err-snake.ensures.1 in
    rw (p.1, p.2)
    (ends (read_snake is_utf8) c.in_err-snake.field-0.0 c.loop.snakes.items c.args.count c.loop.counter c.loop.rest.now (read_many (read_snake is_utf8) c.args.count c.args.bytes.now)
    c.loop-test.true c.in_err-snake.ensures c.loop.invariant.so_far)

pub loop-preserved : goal.loop-preserved
loop-preserved c = record {
  so_far =
      goes_on (read_snake is_utf8) c.loop.snakes.items c.push_reserved.new.self.items c.args.count c.loop.counter c.loop.rest.now c.in_ok-snake.snake c.in_ok-snake.after.now
      (read_many (read_snake is_utf8) c.args.count c.args.bytes.now) c.push_reserved.ensures.items c.loop-test.true c.in_ok-snake.ensures c.loop.invariant.so_far;
  room = omega arith;
}

pub returns : goal.returns
returns c =
    rw c.from_vec.ensures
    (is_done (read_snake is_utf8) c.loop.snakes.items c.args.count c.loop.counter c.loop.rest.now (read_many (read_snake is_utf8) c.args.count c.args.bytes.now)
    c.loop-test.false c.loop.invariant.so_far)
