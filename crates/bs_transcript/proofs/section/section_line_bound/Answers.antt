use Rattle.std.proofs.Common.{◌+◌, ◌∙◌, ap, sym}
use Rattle.bs_json.specs.Replies.{reply_line_of}
use Rattle.bs_transcript.proofs.PartLines.{bound_of_equal, final_line_at, reply_line_at}
use Rattle.bs_transcript.proofs.section.section_line_bound.Goals as goal

pub returns-then-index-section : goal.returns-then-index-section
returns-then-index-section c =
    let section = c.args.section.now in
    let reply = c.index-section-index in
    bound_of_equal _ _ c.reply_line_bound.result
    (ap (reply_line_of section.name.now (c.args.index + 1)) (sym reply.is) ∙ reply_line_at section c.args.index reply.result c.if-index-section.true reply.is)
    c.reply_line_bound.ensures

pub returns-else-index-section : goal.returns-else-index-section
returns-else-index-section c =
    bound_of_equal _ _ c.final_line_bound.result (final_line_at c.args.section.now c.args.index c.requires c.if-index-section.false) c.final_line_bound.ensures
