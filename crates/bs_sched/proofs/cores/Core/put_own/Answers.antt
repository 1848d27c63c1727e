use Rattle.std.proofs.Common.{◌≡◌, ◌-◌, true, ◌∷◌, ◌++◌, [], refl, sym, ap, subst, ◌∙◌, arith}
use Rattle.bs_fiber.specs.declared.input.Input.{Input}
use Rattle.bs_fiber.specs.Tickets.{TicketView}
use Rattle.bs_sched.specs.declared.event.Event.TheVariants as event
use Rattle.bs_sched.specs.Core.{CoreView}
use Rattle.bs_sched.specs.Machine.{is_enabled_there, lane_effect}
use Rattle.bs_sched.specs.inner.Journal.{jobs_out}
use Rattle.bs_sched.proofs.JobsOut.{one_less_out}
use Rattle.bs_sched.proofs.Journaled.{journaled_after}
use Rattle.bs_sched.proofs.cores.Core.put_own.Goals as goal

pub invariant_of-self : goal.invariant_of-self
invariant_of-self g c =
    let inside = c.self.inside in
    let e = event.Put c.args.worker c.args.done.input.job in
    let job = c.job-job.ensures ∙ ap (λ (i : TicketView). i.input.job) c.ticket.ensures in
    let enabled : is_enabled_there inside.games.workers inside.games.lanes e ≡ true
    = subst (λ (v : CoreView). is_enabled_there v.games.workers v.games.lanes e ≡ true) (sym c.self.view_is) c.requires.out in
    let worker = c.worker-number.ensures ∙ ap (λ (i : TicketView). i.input.worker) c.ticket-2.ensures ∙ ap (λ (i : Input). i.worker) c.requires.input in
    let items : c.note.new.self.events ≡ inside.journal.events ++ e ∷ [] = rw (c.note.ensures.events, job, worker) refl in
    let less = one_less_out inside.games.workers inside.games.lanes c.args.worker c.args.done.input.job enabled in
    let counted = c.self.invariant.out in
    let fewer : inside.out - 1 ≡ jobs_out (lane_effect inside.games.lanes e) = omega (arith, counted, less) in
    let used = c.note.ensures.used in
    let same = c.note.ensures.room in
    let room = c.self.invariant.room in
    journaled_after g.row.CAP inside e _ c.self.invariant enabled tt c.complete-spent.ensures items fewer (omega (arith, counted, less, used, same, room))
