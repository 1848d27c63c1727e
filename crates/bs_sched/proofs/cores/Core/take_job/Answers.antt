use Rattle.std.proofs.Common.{◌≡◌, ◌+◌, true, ◌∷◌, ◌++◌, [], refl, sym, ap, subst, ◌∙◌, arith}
use Rattle.bs_sched.specs.declared.event.Event.TheVariants as event
use Rattle.bs_sched.specs.Core.{CoreView}
use Rattle.bs_sched.specs.Machine.{is_enabled_there}
use Rattle.bs_sched.proofs.JobsOut.{one_more_out}
use Rattle.bs_sched.proofs.Journaled.{journaled_told}
use Rattle.bs_sched.proofs.cores.Core.take_job.Goals as goal

pub invariant_of-self-2 : goal.invariant_of-self-2
invariant_of-self-2 g c =
    let inside = c.self.inside in
    let e = event.Take c.args.worker c.args.job in
    let enabled : is_enabled_there inside.games.workers inside.games.lanes e ≡ true
    = subst (λ (v : CoreView). is_enabled_there v.games.workers v.games.lanes e ≡ true) (sym c.self.view_is) c.requires.enabled in
    let items : c.note.new.self.events ≡ inside.journal.events ++ e ∷ [] = rw (c.note.ensures.events, c.worker_number-number.ensures, c.reserve.ensures.events) refl in
    let more = one_more_out inside.games.workers inside.games.lanes c.args.worker c.args.job enabled in
    let used = c.note.ensures.used in
    let same = c.note.ensures.room in
    let room = c.in_ok-reserve.ensures.room in
    journaled_told g.row.CAP inside e c.take_job.new.self.tallies _ c.self.invariant enabled tt (rw c.worker_number-number.ensures at c.in_ok-taken.ensures.ok) items
    (ap (λ n. n + 1) c.self.invariant.out ∙ sym more) (omega (arith, used, same, room))
