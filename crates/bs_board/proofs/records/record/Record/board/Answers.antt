use Rattle.std.proofs.Common.{◌≡◌, subst, sym, ◌∙◌}
use Rattle.std.specs.Prelude.{ℕ, List, IfOk}
use Rattle.bs_board.specs.records.Kept.{IsLegalRecord}
use Rattle.bs_board.specs.records.Record.{record_of}
use Rattle.bs_board.proofs.records.KeptRecord.{board_is_found, board_is_legal, board_is_of_record}
use Rattle.bs_board.proofs.records.record.Record.board.Goals as goal

pub returns-clause-legal : goal.returns-clause-legal
returns-clause-legal c =
    let kept = subst IsLegalRecord (sym c.as_slice.ensures.value) c.as_slice.ensures.legal in
    board_is_legal c.as_slice.result.now c.read_board.result c.found.result kept c.read_board.ensures c.found.ensures

pub returns-clause-record : goal.returns-clause-record
returns-clause-record c =
    let kept = subst IsLegalRecord (sym c.as_slice.ensures.value) c.as_slice.ensures.legal in
    subst (λ (bytes : List ℕ). IfOk c.found.result (λ board. bytes ≡ record_of board)) c.as_slice.ensures.value
    (board_is_of_record c.as_slice.result.now c.read_board.result c.found.result kept c.read_board.ensures c.found.ensures)

pub returns-clause-only : goal.returns-clause-only
returns-clause-only c b legal is =
    board_is_found c.as_slice.result.now b c.read_board.result c.found.result legal (c.as_slice.ensures.value ∙ is) c.read_board.ensures c.found.ensures
