use Rattle.std.proofs.Common.{◌≡◌, ◌<◌, [], ◌∷◌, Err, length, ap, refl, ◌∙◌, arith, rules}
use Rattle.std.specs.Prelude.{option_copied}
use Rattle.bs_host.specs.declared.limits.TheConstants.{LONG_TEXT}
use Rattle.bs_host.specs.declared.live.Answers.{Answers}
use Rattle.bs_host.specs.File.{pieces_of}
use Rattle.bs_host.specs.inner.File.{pieces_after}
use Rattle.bs_host.specs.inner.LiveAnswers.{LeavesTexts}
use Rattle.bs_host.proofs.LiveAnswers.{answers_begin, answers_leave, answers_line, answers_written}
use Rattle.bs_host.proofs.live.answer_lines.Goals as goal

pub lines-init : goal.lines-init
lines-init g c =
    let from = c.args.answers.now in
    let now : Answers = record { host = from.host; text = c.clear.new.self; written = from.written } in
    let empty : c.clear.new.self.bytes ≡ [] = rw c.clear.ensures refl in
    let none = ap length empty in (
      answers_begin from now (pieces_of c.args.lines.now) (g.W.Write.contents c.args.output.now) refl empty refl,
      omega (arith, none),
    )

pub lines-preserved : goal.lines-preserved
lines-preserved g c =
    let line = c.split_line.result.0.now in
    let lines = pieces_after (option_copied c.lines.left) in
    let more = pieces_after (option_copied c.split_line.result.1) in
    let left : lines ≡ line ∷ more = ap (λ left. pieces_after (option_copied left)) c.in-Some.is ∙ c.split_line.ensures.pieces in
    let next : Answers = record { host = c.answer.new.self; text = c.answer.new.text; written = c.lines.answers.written } in
    let old = g.W.Write.contents c.args.output.now in
    let now = g.W.Write.contents c.lines.output in
    let short : length c.answer.new.text.bytes < LONG_TEXT = search rules in (
      answers_line c.args.answers.now c.lines.answers next (pieces_of c.args.lines.now) lines more line old now c.lines.invariant.0 left
          c.in_ok-answer.ensures.host c.in_ok-answer.ensures.text refl,
      short,
    )

pub lines-preserved-in_ok-write_answers : goal.lines-preserved-in_ok-write_answers
lines-preserved-in_ok-write_answers g c =
    let from = c.args.answers.now in
    let all = pieces_of c.args.lines.now in
    let line = c.split_line.result.0.now in
    let lines = pieces_after (option_copied c.lines.left) in
    let more = pieces_after (option_copied c.split_line.result.1) in
    let left : lines ≡ line ∷ more = ap (λ left. pieces_after (option_copied left)) c.in-Some.is ∙ c.split_line.ensures.pieces in
    let next : Answers = record { host = c.answer.new.self; text = c.answer.new.text; written = c.lines.answers.written } in
    let old = g.W.Write.contents c.args.output.now in
    let now = g.W.Write.contents c.lines.output in
    let wrote = c.in_ok-write_answers.ensures in
    let none = ap length wrote.dropped in (
      answers_written from next c.write_answers.new.answers all more old now (g.W.Write.contents c.write_answers.new.output)
          (answers_line from c.lines.answers next all lines more line old now c.lines.invariant.0 left c.in_ok-answer.ensures.host c.in_ok-answer.ensures.text refl)
          wrote.text wrote.host wrote.dropped wrote.count,
      omega (arith, none),
    )

pub returns-in_err-write_answers-clause-left : goal.returns-in_err-write_answers-clause-left
returns-in_err-write_answers-clause-left g c =
    let from = c.args.answers.now in
    let all = pieces_of c.args.lines.now in
    let line = c.split_line.result.0.now in
    let lines = pieces_after (option_copied c.lines.left) in
    let more = pieces_after (option_copied c.split_line.result.1) in
    let left : lines ≡ line ∷ more = ap (λ left. pieces_after (option_copied left)) c.in-Some.is ∙ c.split_line.ensures.pieces in
    let next : Answers = record { host = c.answer.new.self; text = c.answer.new.text; written = c.lines.answers.written } in
    let old = g.W.Write.contents c.args.output.now in
    let now = g.W.Write.contents c.lines.output in
    let new = g.W.Write.contents c.write_answers.new.output in
    let fault = c.in_err-write_answers.field-0.0 in
    let stops : LeavesTexts from all old new fault
    = answers_leave from next all more old now new fault
    (answers_line from c.lines.answers next all lines more line old now c.lines.invariant.0 left c.in_ok-answer.ensures.host c.in_ok-answer.ensures.text refl)
    c.in_err-write_answers.ensures.left in
    let same : c.from_residual-in_err-write_answers.result ≡ Err fault = search rules in
    rw same stops
