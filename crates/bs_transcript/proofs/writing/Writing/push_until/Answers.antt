use Rattle.std.proofs.Common.{rules}
use Rattle.bs_transcript.specs.Written.{IsCutOff}
use Rattle.bs_transcript.proofs.writing.Writing.push_until.Goals as goal

pub returns-in_err-push_line-clause-sent : goal.returns-in_err-push_line-clause-sent
returns-in_err-push_line-clause-sent g c =
    λ first text way.
    let cut : IsCutOff c.in_err-push_line.field-0.0.written first (g.W.Write.contents c.push_line.new.output) text =
    c.in_err-push_line.ensures.sent first text (c.lines.invariant.0 first text way) in
    search rules
