use Rattle.bs_board.specs.declared.boards.board.Board.{Board}
use Rattle.bs_calls.specs.Records.{IsRecordOf, IsUnread}
use Rattle.arena_c.proofs.Answered.{checked_status}
use Rattle.arena_c.proofs.records.arena_legal.Goals as goal

pub returns : goal.returns
returns c = checked_status ((b : Board) × IsRecordOf c.args.bytes.now b) (IsUnread c.args.bytes.now) c.is_legal.result c.checked.result c.is_legal.ensures c.checked.ensures
