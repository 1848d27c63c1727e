use Rattle.std.proofs.Common.{◌∙◌, ap}
use Rattle.bs_json.specs.Text.{put}
use Rattle.bs_json.proofs.Puts.{next}
use Rattle.bs_json.proofs.ReplyText.{stray_is}
use Rattle.bs_json.proofs.replies.push_stray.Goals as goal

pub returns : goal.returns
returns c =
    next _ _ _ _ _ c.push.ensures (next _ _ _ _ _ c.push_number.ensures (next _ _ _ _ _ c.push-2.ensures (next _ _ _ _ _ c.push_stray_code.ensures (next _ _ _ _ _ c.push-3.ensures (next _ _ _ _ _ c.push_stray_reason.ensures c.push-4.ensures)))))
    ∙ ap (put c.args.text.now) (stray_is c.args.line c.args.stray)
