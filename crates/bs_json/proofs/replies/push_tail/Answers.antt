use Rattle.std.proofs.Common.{◌∙◌, ap}
use Rattle.bs_json.specs.Text.{put}
use Rattle.bs_json.proofs.Puts.{next}
use Rattle.bs_json.proofs.ReplyText.{tail_is}
use Rattle.bs_json.proofs.replies.push_tail.Goals as goal

pub returns : goal.returns
returns c =
    next _ _ _ _ _ c.push_answer.ensures (next _ _ _ _ _ c.push_name.ensures c.push_seq.ensures)
    ∙ ap (put c.args.text.now) (tail_is c.args.game.now c.args.seq c.args.word c.args.charge)
