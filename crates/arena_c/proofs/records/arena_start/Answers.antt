use Rattle.std.proofs.Common.{◌≡◌, length}
use Rattle.bs_calls.specs.Records.{HasNoStart, IsStart, KeepsBehind}
use Rattle.arena_c.proofs.Answered.{answered_behind, answered_fault, answered_status}
use Rattle.arena_c.proofs.records.arena_start.Goals as goal

pub returns-clause-status : goal.returns-clause-status
returns-clause-status c =
    answered_status (IsStart c.args.setup.now c.start.new.into) (HasNoStart c.args.setup.now (length c.args.into.now)) c.start.result c.answered.result c.args.count.now c.answered.new.count c.start.ensures.answer c.answered.ensures

pub returns-clause-behind : goal.returns-clause-behind
returns-clause-behind c =
    answered_behind (λ n. KeepsBehind n c.args.into.now c.start.new.into) c.start.result c.answered.result c.args.count.now c.answered.new.count c.start.ensures.behind c.answered.ensures

pub returns-clause-fault : goal.returns-clause-fault
returns-clause-fault c =
    answered_fault (c.start.new.into ≡ c.args.into.now) c.start.result c.answered.result c.args.count.now c.answered.new.count c.start.ensures.err c.answered.ensures
