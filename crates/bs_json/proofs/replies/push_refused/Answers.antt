use Rattle.std.proofs.Common.{◌∙◌, ap}
use Rattle.bs_json.specs.Text.{put}
use Rattle.bs_json.proofs.Puts.{next}
use Rattle.bs_json.proofs.ReplyText.{refused_pieces}
use Rattle.bs_json.proofs.replies.push_refused.Goals as goal

pub returns : goal.returns
returns c =
    next _ _ _ _ _ c.push.ensures (next _ _ _ _ _ c.push_name.ensures (next _ _ _ _ _ c.push_code.ensures (next _ _ _ _ _ c.push_number.ensures c.push_reason.ensures)))
    ∙ ap (put c.args.text.now) (refused_pieces c.args.game.now c.args.seq c.args.refusal)
