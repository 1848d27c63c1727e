use Rattle.std.proofs.Common.{◌≡◌, true, ◌++◌, refl, sym, ap, subst, ◌∙◌, arith}
use Rattle.std.proofs.lemmas.Bool.{leb-true}
use Rattle.bs_sched.specs.Answering.{CanAnswer, answer_events, begun}
use Rattle.bs_sched.specs.Core.{CoreView}
use Rattle.bs_sched.specs.Journal.{setting_in}
use Rattle.bs_sched.specs.Isolation.{are_enabled}
use Rattle.bs_sched.specs.Parts.{core_run}
use Rattle.bs_sched.specs.inner.Journal.{core_in}
use Rattle.bs_sched.specs.Lane.{answered}
use Rattle.bs_sched.specs.Machine.{lane_of}
use Rattle.bs_sched.proofs.HereLanes.{core_runs, enabled_here, journaled_here, ready_here}
use Rattle.bs_sched.proofs.cores.Core.answer_here.Goals as goal

pub invariant_of-self-2 : goal.invariant_of-self-2
invariant_of-self-2 g c =
    let inside = c.self.inside in
    let worker = c.args.worker in
    let game = c.args.next.game in
    let n = c.args.next.parts in
    let can : CanAnswer (core_in inside) worker game n = subst (λ (v : CoreView). CanAnswer v worker game n) (sym c.self.view_is) c.requires in
    let items : c.note_answer.new.self.events ≡ inside.journal.events ++ answer_events worker game n
    = rw (c.note_answer.ensures.events, c.worker_number-number.ensures, c.reserve.ensures.events) refl in
    let used = c.note_answer.ensures.used in
    let same = c.note_answer.ensures.room in
    let room = c.in_ok-reserve.ensures.room in
    journaled_here g.row.CAP inside _ worker game n (answered (begun (lane_of inside.games.lanes game))) c.self.invariant can.enabled can.are
    (c.in_ok-answer_here.ensures.ok worker) c.in_ok-answer_here.ensures.lanes refl items refl (omega (arith, used, same, room))

pub worker_number-number-requires : goal.worker_number-number-requires
worker_number-number-requires g c =
    let inside = c.self.inside in
    let worker = c.args.worker in
    let game = c.args.next.game in
    let can : CanAnswer (core_in inside) worker game c.args.next.parts
    = subst (λ (v : CoreView). CanAnswer v worker game c.args.next.parts) (sym c.self.view_is) c.requires in
    let at = ready_here inside.games.workers inside.games.lanes worker game can.enabled in
    (omega arith, leb-true worker inside.games.workers at.2)

pub answer_here-requires : goal.answer_here-requires
answer_here-requires g c =
    let inside = c.self.inside in
    let worker = c.args.worker in
    let game = c.args.next.game in
    let can : CanAnswer (core_in inside) worker game c.args.next.parts
    = subst (λ (v : CoreView). CanAnswer v worker game c.args.next.parts) (sym c.self.view_is) c.requires in
    let at = ready_here inside.games.workers inside.games.lanes worker game can.enabled in
    (omega arith, (at.0, (at.1, can.are)))

pub note_answer-requires : goal.note_answer-requires
note_answer-requires g c =
    let room = c.in_ok-reserve.ensures.room in
    let used = c.reserve.ensures.used in
    omega (arith, room, used)

pub returns-clause-enabled : goal.returns-clause-enabled
returns-clause-enabled g c =
    let inside = c.self.inside in
    let worker = c.args.worker in
    let game = c.args.next.game in
    let n = c.args.next.parts in
    let can : CanAnswer (core_in inside) worker game n = subst (λ (v : CoreView). CanAnswer v worker game n) (sym c.self.view_is) c.requires in
    let core = core_in inside in
    subst (λ (v : CoreView). are_enabled (setting_in g.row.CAP v) v.games.lanes (answer_events worker game n) ≡ true)
    c.self.view_is (enabled_here (setting_in g.row.CAP core) core.games.lanes worker game n can.enabled can.are)

pub returns-clause-ok : goal.returns-clause-ok
returns-clause-ok g c =
    let inside = c.self.inside in
    let worker = c.args.worker in
    let game = c.args.next.game in
    let n = c.args.next.parts in
    let core = core_in inside in
    let events = answer_events worker game n in
    let items : c.note_answer.new.self.events ≡ inside.journal.events ++ events
    = rw (c.note_answer.ensures.events, c.worker_number-number.ensures, c.reserve.ensures.events) refl in
    let games = c.in_ok-answer_here.ensures.ok worker in
    let is = (λ i. record { games = games i; journal = items i }) ∙ sym (core_runs g.row.CAP core events) in
    is ∙ ap (λ (v : CoreView). core_run g.row.CAP v events) c.self.view_is
