use Rattle.std.proofs.Common.{refl}
use Rattle.bs_transcript.proofs.Sent.{cut_text, sent_text}
use Rattle.bs_transcript.proofs.line_buffer.LineBuffer.write_text.Goals as goal

pub returns-in-Err-clause-sent : goal.returns-in-Err-clause-sent
returns-in-Err-clause-sent g c =
    λ first whole some left is way.
    cut_text first (g.W.Write.contents c.args.output.now) (g.W.Write.contents c.write_all_by.new.output) c.args.self.now whole c.args.text.now some left
    c.in-Err.fault.written c.saturating_add.result c.requires is way c.in-Err.ensures.fewer c.in-Err.ensures.front c.saturating_add.ensures

pub returns-clause-sent : goal.returns-clause-sent
returns-clause-sent g c =
    λ first whole some left is way.
    sent_text first (g.W.Write.contents c.args.output.now) (g.W.Write.contents c.write_all_by.new.output) c.args.self.now _ whole c.args.text.now some left
    c.requires is way c.in_default.ensures.ok refl refl c.saturating_add-self.ensures
