use Rattle.std.proofs.Common.{ap, ◌∙◌, drop, sym, rules}
use Rattle.bs_transcript.specs.Lines.{text_of}
use Rattle.bs_transcript.specs.Written.{IsCutOff}
use Rattle.bs_transcript.specs.inner.Buffer.{IsOnItsWay}
use Rattle.bs_transcript.specs.inner.Parts.{joined}
use Rattle.bs_transcript.proofs.PartLines.{all_lines_text}
use Rattle.bs_transcript.proofs.Sent.{on_its_way, sets_out}
use Rattle.bs_transcript.proofs.together.write_together.Goals as goal
use Rattle.bs_transcript.proofs.together.write_together.Goals.{After-write_rounds}

-- before the first line
start : (g : _) (c : After-write_rounds g)
    → IsOnItsWay (g.W.Write.contents c.args.output.now) (g.W.Write.contents c.args.output.now) c.in_ok-open.field-0
    (text_of c.args.source.sections.now c.args.source.strays.now) (drop c.start.result.number g.L.Lines.lines)
start g c =
    let sections = c.args.source.sections.now in
    let strays = c.args.source.strays.now in
    let now = g.W.Write.contents c.args.output.now in
    on_its_way now now c.in_ok-open.field-0 (text_of sections strays) g.L.Lines.lines (drop c.start.result.number g.L.Lines.lines) (ap (λ n. drop n g.L.Lines.lines) (sym c.start.ensures))
    (sets_out now c.in_ok-open.field-0 c.args.source.bounds g.L.Lines.lines (text_of sections strays)
    (ap joined c.requires.lines ∙ all_lines_text sections strays) c.requires.bounds c.in_ok-open.ensures.empty c.in_ok-open.ensures.longest
    c.in_ok-open.ensures.room c.in_ok-open.ensures.written)

pub returns-in_err-write_rounds-clause-left : goal.returns-in_err-write_rounds-clause-left
returns-in_err-write_rounds-clause-left g c =
    let first = g.W.Write.contents c.args.output.now in
    let text = text_of c.args.source.sections.now c.args.source.strays.now in
    let cut : IsCutOff c.in_err-write_rounds.field-0.0.written first (g.W.Write.contents c.write_rounds.new.output) text =
    c.in_err-write_rounds.ensures.sent first text (start g (goal.at.returns-in_err-write_rounds-clause-left g c).After-write_rounds) in
    search rules

pub returns-clause-written : goal.returns-clause-written
returns-clause-written g c =
    let first = g.W.Write.contents c.args.output.now in
    let text = text_of c.args.source.sections.now c.args.source.strays.now in
    c.in_ok-write_rounds.ensures.sent first text (start g (goal.at.returns-clause-written g c).After-write_rounds)
