use Rattle.bs_board.proofs.records.Writable.{legal_is_writable}
use Rattle.bs_json.proofs.shown_bytes.push_board.Goals as goal

pub returns : goal.returns
returns c =
    let kept = c.args.kept.now in
    c.push_board_parts.ensures kept (legal_is_writable kept c.shared.ensures.legal) (c.parts.ensures.value kept c.shared.ensures.value)
