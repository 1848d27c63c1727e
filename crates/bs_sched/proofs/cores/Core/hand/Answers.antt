use Rattle.std.proofs.Common.{◌≡◌, ◌<◌, true, length, ◌∷◌, ◌++◌, [], refl, sym, subst, ◌∙◌, arith}
use Rattle.std.specs.Prelude.{nat_lt}
use Rattle.std.proofs.lemmas.Bool.{lt-ltb}
use Rattle.bs_sched.specs.declared.event.Event.TheVariants as event
use Rattle.bs_sched.specs.Core.{CoreView}
use Rattle.bs_sched.specs.Machine.{is_enabled_there, lane_of}
use Rattle.bs_sched.proofs.JobsOut.{as_many_handed}
use Rattle.bs_sched.proofs.Journaled.{journaled_after}
use Rattle.bs_sched.proofs.cores.Core.hand.Goals as goal

pub invariant_of-self-2 : goal.invariant_of-self-2
invariant_of-self-2 g c =
    let inside = c.self.inside in
    let command = c.args.command in
    let e = event.Hand c.args.game command in
    let within : c.args.game < length inside.games.lanes = subst (λ (v : CoreView). c.args.game < length v.games.lanes) (sym c.self.view_is) c.requires.game in
    let stands : (lane_of inside.games.lanes c.args.game).is_open ≡ true = subst (λ (v : CoreView). (lane_of v.games.lanes c.args.game).is_open ≡ true) (sym c.self.view_is) c.requires.«open» in
    let there : nat_lt c.args.game (length inside.games.lanes) ≡ true = lt-ltb _ _ within in
    let enabled : is_enabled_there inside.games.workers inside.games.lanes e ≡ true = rw (there, stands) refl in
    let items : c.note.new.self.events ≡ inside.journal.events ++ e ∷ []
    = rw (c.note.ensures.events, c.in_ok-noted.ensures, c.row_number-row.ensures, c.reserve.ensures.events) refl in
    let used = c.note.ensures.used in
    let same = c.note.ensures.room in
    let room = c.in_ok-reserve.ensures.room in
    journaled_after g.row.CAP inside e _ c.self.invariant enabled (rw c.get.ensures at c.keeps_limits.ensures) c.in_ok-hand.ensures.ok items
    (c.self.invariant.out ∙ sym (as_many_handed inside.games.lanes c.args.game command within)) (omega (arith, used, same, room))
