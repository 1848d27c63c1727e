use Rattle.std.proofs.Common.{◌≡◌, ◌-◌, ◌≤◌, ◌++◌, take, drop, ap, sym, ◌∙◌, arith, rules}
use Rattle.bs_transcript.specs.inner.Parts.{joined}
use Rattle.bs_transcript.specs.Written.{IsCutOff}
use Rattle.bs_transcript.proofs.Sent.{lines_cut, on_its_way}
use Rattle.bs_transcript.proofs.writing.Writing.write_rendered.Goals as goal

pub returns-in_err-write_out-clause-sent : goal.returns-in_err-write_out-clause-sent
returns-in_err-write_out-clause-sent g c =
    λ first text way.
    let cut : IsCutOff c.in_err-write_out.field-0.0.written first (g.W.Write.contents c.write_out.new.output) text =
    c.in_err-write_out.ensures.sent first text (drop c.args.self.now.at.number g.L.Lines.lines) way in
    search rules

pub returns-in_err-write_text-clause-sent : goal.returns-in_err-write_text-clause-sent
returns-in_err-write_text-clause-sent g c =
    λ first text way.
    let lines = g.L.Lines.lines in
    let it = c.args.rendered.now in
    let at = c.args.self.now.at.number in
    let some = take (it.to - it.from) (drop it.from lines) in
    let same : at ≡ it.from = omega (arith, c.if-rendered-self.false) in
    let later : it.from ≤ it.to = omega (arith, c.if-rendered.false) in
    let is : joined some ≡ c.as_slice.result.now = sym (c.as_slice.ensures ∙ it.is) in
    let sent = on_its_way first (g.W.Write.contents c.write_out.new.output) c.write_out.new.self text (drop at lines) (some ++ drop it.to lines) (lines_cut lines at it.from it.to same later)
    (c.in_ok-write_out.ensures.sent first text (drop at lines) way) in
    let cut : IsCutOff c.in_err-write_text.field-0.0.written first (g.W.Write.contents c.write_text.new.output) text =
    c.in_err-write_text.ensures.sent first text some (drop it.to lines) is sent in
    search rules

pub returns-clause-sent : goal.returns-clause-sent
returns-clause-sent g c =
    λ first text way.
    let lines = g.L.Lines.lines in
    let it = c.args.rendered.now in
    let at = c.args.self.now.at.number in
    let some = take (it.to - it.from) (drop it.from lines) in
    let same : at ≡ it.from = omega (arith, c.if-rendered-self.false) in
    let later : it.from ≤ it.to = omega (arith, c.if-rendered.false) in
    let is : joined some ≡ c.as_slice.result.now = sym (c.as_slice.ensures ∙ it.is) in
    let sent = on_its_way first (g.W.Write.contents c.write_out.new.output) c.write_out.new.self text (drop at lines) (some ++ drop it.to lines) (lines_cut lines at it.from it.to same later)
    (c.in_ok-write_out.ensures.sent first text (drop at lines) way) in
    let end : c.skip.new.self.number ≡ it.to = c.skip.ensures.exact (omega (arith, same, later)) it.inside in
    on_its_way first (g.W.Write.contents c.write_text.new.output) c.write_text.new.self text (drop it.to lines) (drop c.skip.new.self.number lines) (ap (λ n. drop n lines) (sym end))
    (c.in_ok-write_text.ensures.sent first text some (drop it.to lines) is sent)
