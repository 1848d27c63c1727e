-- A Begin has one part, so it is the job that the answer begins with.
use Rattle.std.proofs.Common.{◌≡◌, true, sym, subst, arith}
use Rattle.bs_fiber.specs.declared.job.JobName.{JobName}
use Rattle.bs_sched.specs.declared.event.Event.TheVariants as event
use Rattle.bs_sched.specs.Answering.{CanAnswer, begin_job}
use Rattle.bs_sched.specs.Core.{CoreView}
use Rattle.bs_sched.specs.Machine.{is_enabled_there, lane_of}
use Rattle.bs_sched.specs.inner.Journal.{core_in}
use Rattle.bs_sched.proofs.HereLanes.{first_part, ready_here, waits_here}
use Rattle.bs_sched.proofs.cores.Core.begun_by.Goals as goal

pub next_parts-parts-requires : goal.next_parts-parts-requires
next_parts-parts-requires g c =
    let inside = c.self.inside in
    let worker = c.args.worker in
    let job = c.args.job in
    let enabled : is_enabled_there inside.games.workers inside.games.lanes (event.Take worker job) ≡ true
    = subst (λ (v : CoreView). is_enabled_there v.games.workers v.games.lanes (event.Take worker job) ≡ true) (sym c.self.view_is) c.requires in
    let first = first_part inside.games.workers inside.games.lanes worker job enabled c.in-Begin.is in
    let begins : is_enabled_there inside.games.workers inside.games.lanes (event.Take worker (begin_job job.game)) ≡ true
    = subst (λ (j : JobName). is_enabled_there inside.games.workers inside.games.lanes (event.Take worker j) ≡ true) first enabled in
    let at = ready_here inside.games.workers inside.games.lanes worker job.game begins in
    (omega arith, (at.0, waits_here (lane_of inside.games.lanes job.game) at.1))

pub overflow_cast-result : goal.overflow_cast-result
overflow_cast-result g c = let few = c.next_parts-parts.ensures.few in omega (arith, few)

pub returns-in-Begin : goal.returns-in-Begin
returns-in-Begin g c =
    let inside = c.self.inside in
    let worker = c.args.worker in
    let job = c.args.job in
    let enabled : is_enabled_there inside.games.workers inside.games.lanes (event.Take worker job) ≡ true
    = subst (λ (v : CoreView). is_enabled_there v.games.workers v.games.lanes (event.Take worker job) ≡ true) (sym c.self.view_is) c.requires in
    let first = first_part inside.games.workers inside.games.lanes worker job enabled c.in-Begin.is in
    let begins : is_enabled_there inside.games.workers inside.games.lanes (event.Take worker (begin_job job.game)) ≡ true
    = subst (λ (j : JobName). is_enabled_there inside.games.workers inside.games.lanes (event.Take worker j) ≡ true) first enabled in
    let here : CanAnswer (core_in inside) worker job.game c.next_parts-parts.result = record { enabled = begins; are = c.next_parts-parts.ensures } in
    subst (λ (v : CoreView). CanAnswer v worker job.game c.next_parts-parts.result) c.self.view_is here
