use Rattle.std.proofs.Common.{[], drop, rules}
use Rattle.std.proofs.lemmas.List.{drop_all}
use Rattle.bs_transcript.specs.Written.{IsCutOff}
use Rattle.bs_transcript.proofs.Sent.{arrived, on_its_way}
use Rattle.bs_transcript.proofs.writing.Writing.write_last.Goals as goal

pub returns-in_err-write_out-clause-sent : goal.returns-in_err-write_out-clause-sent
returns-in_err-write_out-clause-sent g c =
    λ first text way.
    let cut : IsCutOff c.in_err-write_out.field-0.0.written first (g.W.Write.contents c.write_out.new.output) text =
    c.in_err-write_out.ensures.sent first text (drop c.args.self.now.at.number g.L.Lines.lines) way in
    search rules

pub returns-clause-sent : goal.returns-clause-sent
returns-clause-sent g c =
    λ first text way.
    let lines = g.L.Lines.lines in
    let now = g.W.Write.contents c.write_out.new.output in
    let at = c.args.self.now.at.number in
    arrived first now c.write_out.new.self text _
    (on_its_way first now c.write_out.new.self text (drop at lines) [] (drop_all at lines c.requires) (c.in_ok-write_out.ensures.sent first text (drop at lines) way))
    c.in_ok-write_out.ensures.empty
