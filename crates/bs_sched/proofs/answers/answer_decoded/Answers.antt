use Rattle.std.proofs.Common.{ap, ◌∙◌}
use Rattle.std.proofs.lemmas.Result.{IfOk-weaker}
use Rattle.bs_fiber.proofs.Seen.{seen_once}
use Rattle.bs_game.specs.declared.view.View.{View}
use Rattle.bs_game.specs.View.{answer_of}
use Rattle.bs_sched.specs.inner.Answers.{input_in}
use Rattle.bs_sched.proofs.answers.answer_decoded.Goals as goal

pub returns : goal.returns
returns c =
    IfOk-weaker c.answer.result _ _
    (λ answer is view seen.
    is ∙ ap (answer_of c.in_ok-view.view) c.get.ensures
    ∙ ap (λ (v : View). answer_of v c.args.expected.now.command.now)
    (seen_once (input_in c.args.expected.now) c.in_ok-view.view view c.in_ok-view.ensures.seen seen))
    c.answer.ensures.value
