use Rattle.std.proofs.Common.{rules}
use Rattle.bs_transcript.specs.Written.{IsCutOff}
use Rattle.bs_transcript.proofs.writing.Writing.write_round.Goals as goal

pub returns-in_err-write_next-clause-sent : goal.returns-in_err-write_next-clause-sent
returns-in_err-write_next-clause-sent g c =
    λ first text way.
    let cut : IsCutOff c.in_err-write_next.field-0.0.written first (g.W.Write.contents c.write_next.new.output) text =
    c.in_err-write_next.ensures.sent first text (c.loop-lines.invariant first text way) in
    search rules
