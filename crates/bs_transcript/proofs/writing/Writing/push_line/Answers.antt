use Rattle.std.proofs.Common.{◌+◌, drop, rules}
use Rattle.bs_transcript.specs.Written.{IsCutOff}
use Rattle.bs_transcript.proofs.Sent.{next_of}
use Rattle.bs_transcript.proofs.writing.Writing.push_line.Goals as goal

pub returns-in_err-push_line-clause-sent : goal.returns-in_err-push_line-clause-sent
returns-in_err-push_line-clause-sent g c =
    λ first text way.
    let lines = g.L.Lines.lines in
    let at = c.args.self.now.at.number in
    let cut : IsCutOff c.in_err-push_line.field-0.0.written first (g.W.Write.contents c.push_line.new.output) text =
    c.in_err-push_line.ensures.sent first text (drop (at + 1) lines)
    (next_of first (g.W.Write.contents c.args.output.now) c.args.self.now.buffer text _ lines at c.requires c.part.ensures.line way) in
    search rules
