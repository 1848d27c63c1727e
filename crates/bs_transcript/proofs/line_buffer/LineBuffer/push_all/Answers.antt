use Rattle.std.proofs.Common.{[], ◌+◌, drop, subst, rules}
use Rattle.bs_transcript.specs.inner.Buffer.{IsOnItsWay}
use Rattle.bs_transcript.specs.inner.Parts.{all_lines_of}
use Rattle.bs_transcript.specs.Written.{IsCutOff}
use Rattle.bs_transcript.proofs.PartLines.{section_first, strays_alone}
use Rattle.bs_transcript.proofs.line_buffer.LineBuffer.push_all.Goals as goal

pub returns-in_err-push_part-clause-sent : goal.returns-in_err-push_part-clause-sent
returns-in_err-push_part-clause-sent g c =
    λ first text way.
    let sections = c.args.sections.now in
    let strays = c.args.strays.now in
    let at = c.loop-section.section-index in
    let before = c.loop-section.invariant first text way in
    let next = subst (IsOnItsWay first (g.W.Write.contents c.loop-section.output) c.loop-section.self text)
    (section_first sections strays at c.section-item.result c.loop-section-test.true c.section-item.is) before in
    let cut : IsCutOff c.in_err-push_part.field-0.0.written first (g.W.Write.contents c.push_part.new.output) text =
    c.in_err-push_part.ensures.sent first text (all_lines_of (drop (at + 1) sections) strays) next in
    search rules

pub returns-in_err-push_part-2-clause-sent : goal.returns-in_err-push_part-2-clause-sent
returns-in_err-push_part-2-clause-sent g c =
    λ first text way.
    let sections = c.args.sections.now in
    let strays = c.args.strays.now in
    let before = c.loop-section.invariant first text way in
    let next = subst (IsOnItsWay first (g.W.Write.contents c.loop-section.output) c.loop-section.self text)
    (strays_alone sections strays c.loop-section.section-index c.loop-section-test.false) before in
    let cut : IsCutOff c.in_err-push_part-2.field-0.0.written first (g.W.Write.contents c.push_part-2.new.output) text =
    c.in_err-push_part-2.ensures.sent first text [] next in
    search rules
