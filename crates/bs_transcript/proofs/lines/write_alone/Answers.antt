use Rattle.std.proofs.Common.{[], rules}
use Rattle.bs_transcript.specs.inner.Buffer.{IsOnItsWay}
use Rattle.bs_transcript.specs.Lines.{text_of}
use Rattle.bs_transcript.specs.inner.Parts.{all_lines_of}
use Rattle.bs_transcript.specs.Written.{IsCutOff}
use Rattle.bs_transcript.proofs.PartLines.{all_lines_text}
use Rattle.bs_transcript.proofs.Sent.{arrived, sets_out}
use Rattle.bs_transcript.proofs.lines.write_alone.Goals as goal
use Rattle.bs_transcript.proofs.lines.write_alone.Goals.{After-push_all}

-- before the first line
start : (g : _) (c : After-push_all g)
    → IsOnItsWay (g.W.Write.contents c.args.output.now) (g.W.Write.contents c.args.output.now) c.in_ok-buffer.buffer
    (text_of c.args.sections.now c.args.strays.now) (all_lines_of c.args.sections.now c.args.strays.now)
start g c =
    let sections = c.args.sections.now in
    let strays = c.args.strays.now in
    sets_out (g.W.Write.contents c.args.output.now) c.in_ok-buffer.buffer c.in_ok-bounds.bounds (all_lines_of sections strays) (text_of sections strays)
    (all_lines_text sections strays) c.in_ok-bounds.ensures c.in_ok-buffer.ensures.empty c.in_ok-buffer.ensures.longest
    c.in_ok-buffer.ensures.room c.in_ok-buffer.ensures.written

pub returns-in_err-push_all-clause-left : goal.returns-in_err-push_all-clause-left
returns-in_err-push_all-clause-left g c =
    let first = g.W.Write.contents c.args.output.now in
    let text = text_of c.args.sections.now c.args.strays.now in
    let cut : IsCutOff c.in_err-push_all.field-0.0.written first (g.W.Write.contents c.push_all.new.output) text =
    c.in_err-push_all.ensures.sent first text (start g (goal.at.returns-in_err-push_all-clause-left g c).After-push_all) in
    search rules

pub returns-in_err-write_out-clause-left : goal.returns-in_err-write_out-clause-left
returns-in_err-write_out-clause-left g c =
    let first = g.W.Write.contents c.args.output.now in
    let text = text_of c.args.sections.now c.args.strays.now in
    let all = c.in_ok-push_all.ensures.sent first text (start g (goal.at.returns-in_err-write_out-clause-left g c).After-push_all) in
    let cut : IsCutOff c.in_err-write_out.field-0.0.written first (g.W.Write.contents c.write_out.new.output) text =
    c.in_err-write_out.ensures.sent first text [] all in
    search rules

pub returns-clause-written : goal.returns-clause-written
returns-clause-written g c =
    let first = g.W.Write.contents c.args.output.now in
    let text = text_of c.args.sections.now c.args.strays.now in
    let all = c.in_ok-push_all.ensures.sent first text (start g (goal.at.returns-clause-written g c).After-push_all) in
    arrived first (g.W.Write.contents c.write_out.new.output) c.write_out.new.self text _
    (c.in_ok-write_out.ensures.sent first text [] all) c.in_ok-write_out.ensures.empty
