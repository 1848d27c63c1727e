use Rattle.std.proofs.Common.{◌≡◌, ◌<◌, true, length, sym, ap, subst, ◌∙◌}
use Rattle.std.specs.Prelude.{nat_lt}
use Rattle.std.proofs.lemmas.Bool.{ltb-true}
use Rattle.std.proofs.lemmas.Result.{IfOk-weaker}
use Rattle.bs_board.proofs.Chains.{and_both}
use Rattle.bs_board.specs.declared.commands.command.Command.{Command}
use Rattle.bs_fiber.specs.declared.job.JobKind.TheVariants as kind
use Rattle.bs_fiber.specs.Expected.{IsOf}
use Rattle.bs_sched.specs.Answering.{begin_job, begun}
use Rattle.bs_sched.specs.Game.{GameView}
use Rattle.bs_sched.specs.Inputs.{input_for}
use Rattle.bs_sched.specs.Lane.{Lane, is_idle, is_ready, lane_command}
use Rattle.bs_sched.proofs.NextAnswer.{answer_is_next, fit_expected}
use Rattle.bs_sched.proofs.game.Game.next_answer.Goals as goal

some_wait : (x : Lane) → is_ready x kind.Begin 0 ≡ true → 0 < length x.waiting
some_wait x ready = ltb-true 0 (length x.waiting) (and_both (is_idle x.stage) (nat_lt 0 (length x.waiting)) ready).1

pub next-requires : goal.next-requires
next-requires g c = some_wait c.self.inside.fiber (subst (λ (v : GameView). is_ready v.lane kind.Begin 0 ≡ true) (sym c.self.view_is) c.requires)

pub next_seq-requires : goal.next_seq-requires
next_seq-requires g c = some_wait c.self.inside.fiber (subst (λ (v : GameView). is_ready v.lane kind.Begin 0 ≡ true) (sym c.self.view_is) c.requires)

pub answer_expected-requires : goal.answer_expected-requires
answer_expected-requires g c =
    let x = c.args.self.now.lane in
    let command = c.next.ensures ∙ ap (λ (v : GameView). lane_command (begun v.lane)) c.self.view_is in
    let is = subst (λ (cmd : Command). IsOf (input_for x cmd c.next_seq.result 0 (begin_job 0)) c.expected-expected.result) command c.expected-expected.ensures.value in
    fit_expected x c.keeps.ensures.right c.requires c.next_seq.result 0 (begin_job 0) c.expected-expected.result is

pub returns : goal.returns
returns g c =
    let x = c.args.self.now.lane in
    let command = c.next.ensures ∙ ap (λ (v : GameView). lane_command (begun v.lane)) c.self.view_is in
    let is = subst (λ (cmd : Command). IsOf (input_for x cmd c.next_seq.result 0 (begin_job 0)) c.expected-expected.result) command c.expected-expected.ensures.value in
    IfOk-weaker c.answer_expected.result _ _
    (λ answer told. answer_is_next x c.keeps.ensures.right c.requires c.next_seq.result 0 (begin_job 0) c.expected-expected.result answer is told)
    c.answer_expected.ensures
