use Rattle.std.proofs.Common.{ap, sym, ◌∙◌}
use Rattle.std.specs.Prelude.{option_map}
use Rattle.bs_sched.specs.inner.Answers.{input_in}
use Rattle.bs_sched.proofs.ShownAnswers.{asked_answered, last_answered, move_answered, move_read}
use Rattle.bs_sched.proofs.answers.answer_unrefused.Goals as goal

pub returns-in-Show-Some-default : goal.returns-in-Show-Some-default
returns-in-Show-Some-default c =
    last_answered (input_in c.args.expected.now) c.in-Show-Some-default.last.now c.show_kept.result (sym c.get.ensures ∙ c.in-Show-Some-default.is-0)
    (ap (option_map (λ kept. kept.now)) c.in-Show-Some-default.is-1) c.show_kept.ensures

pub returns-in-Turn-Some-Some : goal.returns-in-Turn-Some-Some
returns-in-Turn-Some-Some c =
    asked_answered (input_in c.args.expected.now) c.in-Turn-Some-Some.field-0-0 c.in-Turn-Some-Some.field-0-1.now c.in-Turn-Some-Some.asked.now c.show_copied.result
    (sym c.get.ensures ∙ c.in-Turn-Some-Some.is-0) (ap (option_map (λ kept. kept.now)) c.in-Turn-Some-Some.is-1)
    (ap (option_map (λ bytes. bytes.now)) c.in-Turn-Some-Some.is-2) c.show_copied.ensures

pub answer-requires : goal.answer-requires
answer-requires c =
    move_read (input_in c.args.expected.now) c.in-Move-Some-default.last.now (ap (option_map (λ kept. kept.now)) c.in-Move-Some-default.is-1) c.requires

pub returns-in-Move-Some-default : goal.returns-in-Move-Some-default
returns-in-Move-Some-default c =
    move_answered (input_in c.args.expected.now) c.in-Move-Some-default.orders c.in-Move-Some-default.last.now c.answer.result c.requires
    (sym c.get.ensures ∙ c.in-Move-Some-default.is-0) (ap (option_map (λ kept. kept.now)) c.in-Move-Some-default.is-1) c.answer.ensures.value
