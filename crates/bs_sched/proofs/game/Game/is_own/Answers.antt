use Rattle.std.proofs.Common.{◌≡◌, ℕ, true, sym, ap, subst, ◌∙◌}
use Rattle.std.specs.Prelude.{◌↔◌, IsTrue}
use Rattle.bs_fiber.specs.Expected.{IsOf}
use Rattle.bs_fiber.specs.declared.job.JobName.{JobName}
use Rattle.bs_fiber.specs.Tickets.{names_of}
use Rattle.bs_sched.specs.Game.{GameView}
use Rattle.bs_sched.specs.inner.Game.{IsOwnTicket, game_in, lane_at, own_names}
use Rattle.bs_sched.specs.Inputs.{input_for}
use Rattle.bs_sched.specs.Lane.{is_out}
use Rattle.bs_sched.proofs.ChangedGame.{right_game}
use Rattle.bs_sched.proofs.OwnJobs.{own_of_expected}
use Rattle.bs_sched.proofs.game.Game.is_own.Goals as goal

pub returns-then-is_of : goal.returns-then-is_of
returns-then-is_of g c =
    let inside = c.self.inside in
    let x = lane_at inside in
    let v = game_in inside in
    let ticket = c.args.ticket.now in
    let number : c.worker-number.result ≡ c.args.worker = c.if-number-worker.false in
    let expected : IsOf (input_for x c.command.result.now c.seq.result c.worker-number.result c.job-job.result) c.expected-expected.result
    = rw (← c.self.view_is) at c.expected-expected.ensures.value in
    let given = subst (λ (w : ℕ). IsOf (input_for x c.command.result.now c.seq.result w c.job-job.result) c.expected-expected.result) number expected in
    let expects = subst (λ (job : JobName). IsOf (input_for x c.command.result.now c.seq.result c.args.worker job) c.expected-expected.result) c.job-job.ensures given in
    let out = subst (λ (job : JobName). is_out c.args.worker x job.kind job.part ≡ true) c.job-job.ensures (ap (λ (w : GameView). is_out c.args.worker w.lane c.job-job.result.kind c.job-job.result.part) c.self.view_is ∙ sym c.has_out.ensures ∙ c.if-not-has_out.false) in
    let both = own_of_expected x c.args.worker ticket c.command.result.now c.seq.result c.expected-expected.result c.is_of.result (right_game g.row.CAP inside c.self.invariant c.keeps.ensures)
    out c.command.ensures c.seq.ensures expects c.is_of.ensures.fit c.is_of.ensures.value in
    let job : own_names v c.job-job.result ≡ own_names v ticket.input.job = ap (own_names v) c.job-job.ensures in
    let frames = ap names_of c.frames.ensures.value in
    subst (λ (u : GameView). IsTrue c.are_of.result ↔ IsOwnTicket u c.args.worker ticket) c.self.view_is (
      (λ yes. record { own = both.0 c.if-is_of.true; names = sym frames ∙ c.are_of.ensures.0 yes ∙ job }),
      (λ own. c.are_of.ensures.1 (frames ∙ own.names ∙ sym job)),
    )
