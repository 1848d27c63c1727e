use Rattle.std.proofs.Common.{sym, ◌∙◌}
use Rattle.bs_board.specs.declared.commands.reply.Reply.TheVariants.{Refused}
use Rattle.bs_fiber.specs.declared.job.JobKind.TheVariants as kind
use Rattle.bs_fiber.proofs.Unseen.{refused_unseen}
use Rattle.bs_game.specs.View.{answer_with}
use Rattle.bs_sched.specs.inner.Answers.{input_in}
use Rattle.bs_sched.proofs.Brought.{answer_of_out}
use Rattle.bs_sched.proofs.ShownAnswers.{some_mapped}
use Rattle.bs_sched.proofs.answers.answer_expected.Goals as goal

pub returns-in-Some : goal.returns-in-Some
returns-in-Some c view seen =
    let expected = c.args.expected.now in
    c.refuse.ensures
    ∙ (answer_of_out kind.Begin 0 view expected.command.now (answer_with (Refused c.in-Some.reason))
    (refused_unseen (input_in expected) c.get.result.now c.is_some.result c.is_some-2.result c.check_unseen.result c.in-Some.reason c.get.ensures
    (c.is_some.ensures ∙ sym (some_mapped (λ kept. kept.now) expected.last)) (c.is_some-2.ensures ∙ sym (some_mapped (λ bytes. bytes.now) expected.asked))
    c.check_unseen.ensures.told c.check_unseen.ensures.untold c.in-Some.is view seen)).answer_is
