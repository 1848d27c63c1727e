use Rattle.std.proofs.Common.{◌≡◌, length}
use Rattle.bs_calls.specs.Records.{HasNoTurn, IsTurn, KeepsBehind}
use Rattle.arena_c.proofs.Answered.{answered_behind, answered_fault, answered_status}
use Rattle.arena_c.proofs.records.arena_turn.Goals as goal

pub returns-clause-status : goal.returns-clause-status
returns-clause-status c =
    answered_status (IsTurn c.args.bytes.now c.args.orders.now c.turn.new.into) (HasNoTurn c.args.bytes.now c.args.orders.now (length c.args.into.now)) c.turn.result c.answered.result c.args.count.now c.answered.new.count c.turn.ensures.answer c.answered.ensures

pub returns-clause-behind : goal.returns-clause-behind
returns-clause-behind c =
    answered_behind (λ n. KeepsBehind n c.args.into.now c.turn.new.into) c.turn.result c.answered.result c.args.count.now c.answered.new.count c.turn.ensures.behind c.answered.ensures

pub returns-clause-fault : goal.returns-clause-fault
returns-clause-fault c =
    answered_fault (c.turn.new.into ≡ c.args.into.now) c.turn.result c.answered.result c.args.count.now c.answered.new.count c.turn.ensures.err c.answered.ensures
