use Rattle.bs_board.specs.boards.Over.{is_over}
use Rattle.bs_calls.specs.Records.{IsRecordOf, IsUnread}
use Rattle.arena_c.proofs.Answered.{told_fault, told_status}
use Rattle.arena_c.proofs.records.arena_over.Goals as goal

pub returns-clause-status : goal.returns-clause-status
returns-clause-status c =
    told_status (IsRecordOf c.args.bytes.now) is_over (IsUnread c.args.bytes.now) c.is_over.result c.told.result c.args.over.now c.told.new.over c.is_over.ensures c.told.ensures

pub returns-clause-fault : goal.returns-clause-fault
returns-clause-fault c = told_fault c.is_over.result c.told.result c.args.over.now c.told.new.over c.told.ensures
