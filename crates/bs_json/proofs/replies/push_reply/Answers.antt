use Rattle.std.proofs.Common.{◌∙◌, ap, sym}
use Rattle.serde_json.specs.Written.{compact_text}
use Rattle.bs_json.specs.Replies.{reply_data}
use Rattle.bs_json.specs.Text.{put}
use Rattle.bs_json.proofs.Puts.{next}
use Rattle.bs_json.proofs.ReplyText.{plain_is, shown_is}
use Rattle.bs_json.proofs.replies.push_reply.Goals as goal

pub returns-in-Shown : goal.returns-in-Shown
returns-in-Shown c =
    next _ _ _ _ _ c.push.ensures (next _ _ _ _ _ c.push_board.ensures (next _ _ _ _ _ c.push-in-Shown.ensures c.push_tail.ensures))
    ∙ ap (put c.args.text.now) (shown_is c.args.game.now c.args.seq c.in-Shown.word c.in-Shown.board c.in-Shown.charge)
    ∙ ap (λ reply. put c.args.text.now (compact_text (reply_data c.args.game.now c.args.seq reply))) (sym c.in-Shown.is)

pub returns-in-Plain : goal.returns-in-Plain
returns-in-Plain c =
    next _ _ _ _ _ c.push-in-Plain.ensures c.push_tail-in-Plain.ensures
    ∙ ap (put c.args.text.now) (plain_is c.args.game.now c.args.seq c.in-Plain.word c.in-Plain.charge)
    ∙ ap (λ reply. put c.args.text.now (compact_text (reply_data c.args.game.now c.args.seq reply))) (sym c.in-Plain.is)
