use Rattle.std.proofs.Common.{length, sym}
use Rattle.bs_calls.proofs.Answers.{has_turn}
use Rattle.bs_calls.proofs.records.turn_in_place.Goals as goal

pub returns-clause-answer : goal.returns-clause-answer
returns-clause-answer c =
    rw (sym c.front.ensures.value)
    (has_turn c.front.result.now c.args.orders.now _ c.in_ok-next.ensures c.write.result c.write.new.into (length c.args.slot.now) c.write.ensures.answer)
