use Rattle.std.proofs.Common.{◌≡◌, ap, sym, subst, ◌∙◌, arith}
use Rattle.bs_fiber.specs.declared.job.JobName.{JobName}
use Rattle.bs_fiber.specs.declared.contents.Contents.{Contents}
use Rattle.bs_fiber.specs.Tickets.{TicketView, bytes_of, frames_in, names_of, ticket_in, without_output}
use Rattle.bs_sched.specs.Courses.{IsRight}
use Rattle.bs_sched.specs.inner.Games.{games_completed}
use Rattle.bs_sched.specs.Lane.{Lane}
use Rattle.bs_sched.proofs.OwnJobs.{brings, own_there}
use Rattle.bs_sched.proofs.games.Games.complete.Goals as goal

pub game-requires : goal.game-requires
game-requires g c =
    let job = c.job-job.ensures ∙ ap (λ (i : TicketView). i.input.job) c.ticket.ensures in
    let there = own_there c.args.self.now c.requires.0 c.args.done c.requires.1 in
    (omega arith, (omega arith, rw job there))

pub complete_job-requires : goal.complete_job-requires
complete_job-requires g c =
    let job = c.job-job.ensures ∙ ap (λ (i : TicketView). i.input.job) c.ticket.ensures in
    let right = subst (λ (x : Lane). IsRight x) (sym c.game.ensures) c.keeps.ensures.right in
    let back = brings c.args.self.now c.requires.0 c.args.done c.job-job.result c.into_parts-ticket.result.1 c.requires.1 job right
    c.into_parts-ticket.ensures.out c.into_parts-ticket.ensures.holds in
    let ticket : ticket_in c.into_contents-contents.result.value ≡ without_output c.args.done = c.into_contents-contents.ensures.value ∙ c.into_parts-ticket.ensures.ticket in
    let blocks : frames_in c.deref_mut.result.now.frames.items ≡ c.args.done.frames
    = ap (λ (t : Contents g.row.CAP). frames_in t.frames.items) c.deref_mut.ensures.value ∙ ap (λ (t : TicketView). t.frames) ticket in
    (omega arith, (omega arith, (back.there, (back.out, (back.worked, (ap names_of blocks ∙ back.names, ap bytes_of blocks ∙ back.holds))))))

pub returns : goal.returns
returns g c =
    let job = c.job-job.ensures ∙ ap (λ (i : TicketView). i.input.job) c.ticket.ensures in
    c.complete_job.ensures ∙ ap (λ (j : JobName). games_completed g.row.CAP c.args.self.now j) job
