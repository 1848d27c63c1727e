use Rattle.std.proofs.Common.{◌∙◌, ap}
use Rattle.bs_json.specs.Text.{put}
use Rattle.bs_json.proofs.Puts.{next}
use Rattle.bs_json.proofs.ReplyText.{final_is}
use Rattle.bs_json.proofs.replies.push_final.Goals as goal

pub returns : goal.returns
returns c =
    next _ _ _ _ _ c.push.ensures (next _ _ _ _ _ c.push_last.ensures (next _ _ _ _ _ c.push-2.ensures (next _ _ _ _ _ c.push_charge.ensures (next _ _ _ _ _ c.push-3.ensures (next _ _ _ _ _ c.push_game.ensures c.push-4.ensures)))))
    ∙ ap (put c.args.text.now) (final_is c.args.game.now _ c.args.charge)
