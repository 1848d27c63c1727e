use Rattle.std.proofs.Common.{◌≡◌, ◌<◌, true, length, ◌∷◌, ◌++◌, [], refl, sym, subst, ◌∙◌, arith}
use Rattle.std.specs.Prelude.{nat_lt}
use Rattle.std.proofs.lemmas.Bool.{lt-ltb}
use Rattle.bs_sched.specs.declared.event.Event.TheVariants as event
use Rattle.bs_sched.specs.Core.{CoreView}
use Rattle.bs_sched.specs.Lane.{may_leave}
use Rattle.bs_sched.specs.Machine.{is_enabled_there, lane_of}
use Rattle.bs_sched.proofs.JobsOut.{as_many_left}
use Rattle.bs_sched.proofs.Journaled.{journaled_after}
use Rattle.bs_sched.proofs.cores.Core.close_stay.Goals as goal

pub invariant_of-self-2 : goal.invariant_of-self-2
invariant_of-self-2 g c =
    let inside = c.self.inside in
    let game = c.args.game in
    let e = event.Leave game in
    let within : game < length inside.games.lanes = subst (λ (v : CoreView). game < length v.games.lanes) (sym c.self.view_is) c.requires.game in
    let may : may_leave (lane_of inside.games.lanes game) ≡ true = subst (λ (v : CoreView). may_leave (lane_of v.games.lanes game) ≡ true) (sym c.self.view_is) c.requires.may in
    let there : nat_lt game (length inside.games.lanes) ≡ true = lt-ltb _ _ within in
    let enabled : is_enabled_there inside.games.workers inside.games.lanes e ≡ true = rw (there, may) refl in
    let items : c.note.new.self.events ≡ inside.journal.events ++ e ∷ []
    = rw (c.note.ensures.events, c.row_number-row.ensures, c.reserve.ensures.events) refl in
    let used = c.note.ensures.used in
    let same = c.note.ensures.room in
    let room = c.in_ok-reserve.ensures.room in
    journaled_after g.row.CAP inside e _ c.self.invariant enabled tt c.leave.ensures items
    (c.self.invariant.out ∙ sym (as_many_left inside.games.lanes game within)) (omega (arith, used, same, room))
