use Rattle.std.proofs.Common.{arith}
use Rattle.bs_plane.proofs.AnsweredMove.{record_small}
use Rattle.bs_plane.proofs.answering.record_charge.Goals as goal

pub overflow_cast-result : goal.overflow_cast-result
overflow_cast-result c =
    let small = record_small c.args.next.now c.as_slice.ensures.legal in
    let value = c.round_up.ensures.value in
    let same = c.as_slice.ensures.value in
    rw (value, same) (omega (arith, small))

pub returns-clause-small : goal.returns-clause-small
returns-clause-small c = rw (c.round_up.ensures.value, c.as_slice.ensures.value) (record_small c.args.next.now c.as_slice.ensures.legal)
