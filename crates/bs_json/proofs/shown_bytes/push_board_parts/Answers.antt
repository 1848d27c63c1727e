use Rattle.std.proofs.Common.{ap, ◌∙◌}
use Rattle.bs_json.specs.Text.{put}
use Rattle.bs_json.proofs.Puts.{next}
use Rattle.bs_json.proofs.ShownSnakes.{board_text}
use Rattle.bs_json.proofs.shown_bytes.push_board_parts.Goals as goal

pub returns : goal.returns
returns c b fits whole =
    next _ _ _ _ _ c.push_front.ensures (next _ _ _ _ _ (c.push_snakes.ensures b fits whole) c.push_back.ensures) ∙ ap (put c.args.text.now) (board_text b c.args.board.now c.is_over.result fits whole (c.is_over.ensures b whole))
