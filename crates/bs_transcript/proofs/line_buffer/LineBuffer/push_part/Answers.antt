use Rattle.std.proofs.Common.{◌+◌, ◌<◌, ◌++◌, length, drop, arith, rules}
use Rattle.bs_transcript.specs.inner.Parts.{lines_of_part}
use Rattle.bs_transcript.specs.Written.{IsCutOff}
use Rattle.bs_transcript.proofs.Sent.{next_line}
use Rattle.bs_transcript.proofs.line_buffer.LineBuffer.push_part.Goals as goal

pub returns-in_err-push_line-clause-sent : goal.returns-in_err-push_line-clause-sent
returns-in_err-push_line-clause-sent g c =
    λ first text left way.
    let lines = lines_of_part c.args.part.now in
    let at = c.loop-index.index in
    let within : at < length lines = omega (arith, c.len-index-end.ensures, c.loop-index-test.true) in
    let cut : IsCutOff c.in_err-push_line.field-0.0.written first (g.W.Write.contents c.push_line.new.output) text =
    c.in_err-push_line.ensures.sent first text (drop (at + 1) lines ++ left)
    (next_line first (g.W.Write.contents c.loop-index.output) c.loop-index.self text lines left at within (c.loop-index.invariant first text left way)) in
    search rules
