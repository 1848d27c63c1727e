use Rattle.std.proofs.Common.{◌≡◌, ◌+◌, [], Err, drop, take, subst, sym, rules}
use Rattle.bs_host.specs.File.{pieces_of}
use Rattle.bs_host.specs.inner.Live.{IsCutLast, IsServing, StopsServing}
use Rattle.bs_host.specs.inner.LiveAnswers.{HasAnswers, LeavesTexts}
use Rattle.bs_host.proofs.LiveAnswers.{answers_leave, answers_serve, answers_written, texts_leave}
use Rattle.bs_host.proofs.live.answer_ready.Goals as goal

pub returns-clause-serving : goal.returns-clause-serving
returns-clause-serving g c =
    λ blocks version plan after first is.
    let pending = c.args.flow.now.pending.items in
    let front = take c.in-Some.at pending in
    let back = drop (c.in-Some.at + 1) pending in
    let from = c.args.flow.now.answers in
    let some = c.answer_lines.new.answers in
    let all = c.write_answers.new.answers in
    let now = g.W.Write.contents c.args.output.now in
    let mid = g.W.Write.contents c.answer_lines.new.output in
    let next = g.W.Write.contents c.write_answers.new.output in
    let cut : IsCutLast pending front back = rw c.deref.ensures.value at c.in-Some.ensures.cut in
    let told : HasAnswers from some (pieces_of front) [] now mid = rw c.deref-2.ensures.value at c.in_ok-answer_lines.ensures.answered in
    let wrote = c.in_ok-write_answers.ensures in
    let whole : HasAnswers from all (pieces_of front) [] now next
    = answers_written from some all (pieces_of front) [] now mid next told wrote.text wrote.host wrote.dropped wrote.count in
    let same : c.drop_first.new.bytes.items ≡ back = c.drop_first.ensures in
    subst (λ p. IsServing blocks version plan after p first next all.written all.host) (sym same)
    (answers_serve blocks version plan after pending front back first now next from all is cut whole wrote.dropped)

pub returns-in_err-answer_lines-clause-left : goal.returns-in_err-answer_lines-clause-left
returns-in_err-answer_lines-clause-left g c =
    let pending = c.args.flow.now.pending.items in
    let front = take c.in-Some.at pending in
    let back = drop (c.in-Some.at + 1) pending in
    let from = c.args.flow.now.answers in
    let now = g.W.Write.contents c.args.output.now in
    let mid = g.W.Write.contents c.answer_lines.new.output in
    let fault = c.in_err-answer_lines.field-0.0 in
    let cut : IsCutLast pending front back = rw c.deref.ensures.value at c.in-Some.ensures.cut in
    let stops : LeavesTexts from (pieces_of front) now mid fault = rw c.deref-2.ensures.value at c.in_err-answer_lines.ensures.left in
    let left : StopsServing c.args.flow.now now mid fault
    = λ blocks version plan after first is more. texts_leave blocks version plan after pending front back more first now mid from fault is cut stops in
    let same : c.from_residual.result ≡ Err fault = search rules in
    rw same left

pub returns-in_err-write_answers-clause-left : goal.returns-in_err-write_answers-clause-left
returns-in_err-write_answers-clause-left g c =
    let pending = c.args.flow.now.pending.items in
    let front = take c.in-Some.at pending in
    let back = drop (c.in-Some.at + 1) pending in
    let from = c.args.flow.now.answers in
    let some = c.answer_lines.new.answers in
    let now = g.W.Write.contents c.args.output.now in
    let mid = g.W.Write.contents c.answer_lines.new.output in
    let next = g.W.Write.contents c.write_answers.new.output in
    let fault = c.in_err-write_answers.field-0.0 in
    let cut : IsCutLast pending front back = rw c.deref.ensures.value at c.in-Some.ensures.cut in
    let told : HasAnswers from some (pieces_of front) [] now mid = rw c.deref-2.ensures.value at c.in_ok-answer_lines.ensures.answered in
    let stops : LeavesTexts from (pieces_of front) now next fault
    = answers_leave from some (pieces_of front) [] now mid next fault told c.in_err-write_answers.ensures.left in
    let left : StopsServing c.args.flow.now now next fault
    = λ blocks version plan after first is more. texts_leave blocks version plan after pending front back more first now next from fault is cut stops in
    let same : c.from_residual-in_err-write_answers.result ≡ Err fault = search rules in
    rw same left
