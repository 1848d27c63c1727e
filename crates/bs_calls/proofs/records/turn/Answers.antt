use Rattle.std.proofs.Common.{length}
use Rattle.bs_calls.proofs.Answers.{has_turn}
use Rattle.bs_calls.proofs.records.turn.Goals as goal

pub returns-clause-answer : goal.returns-clause-answer
returns-clause-answer c =
    has_turn c.args.bytes.now c.args.orders.now _ c.in_ok-next.ensures c.write.result c.write.new.into (length c.args.into.now) c.write.ensures.answer
