use Rattle.std.proofs.Common.{◌≡◌, true, ◌∷◌, ◌++◌, [], refl, sym, subst, ◌∙◌, arith}
use Rattle.bs_sched.specs.declared.event.Event.TheVariants as event
use Rattle.bs_sched.specs.Core.{CoreView}
use Rattle.bs_sched.specs.Games.{setting_of}
use Rattle.bs_sched.specs.Machine.{is_enabled, may_admit}
use Rattle.bs_sched.proofs.JobsOut.{as_many_admitted}
use Rattle.bs_sched.proofs.Journaled.{journaled_after}
use Rattle.bs_sched.proofs.cores.Core.open_stay.Goals as goal

pub admit-requires : goal.admit-requires
admit-requires g c =
    let may = subst (λ (v : CoreView). may_admit (setting_of g.row.CAP v.games) v.games.lanes c.args.row ≡ true) (sym c.self.view_is) c.requires in
    (omega arith, (c.keeps_row.ensures, may))

pub invariant_of-self-2 : goal.invariant_of-self-2
invariant_of-self-2 g c =
    let inside = c.self.inside in
    let row = c.args.row in
    let e = event.Admit row in
    let enabled : is_enabled (setting_of g.row.CAP inside.games) inside.games.lanes e ≡ true
    = subst (λ (v : CoreView). may_admit (setting_of g.row.CAP v.games) v.games.lanes row ≡ true) (sym c.self.view_is) c.requires in
    let items : c.note.new.self.events ≡ inside.journal.events ++ e ∷ []
    = rw (c.note.ensures.events, c.in_ok-noted.ensures, c.in_ok-copy.ensures, c.reserve.ensures.events) refl in
    let used = c.note.ensures.used in
    let same = c.note.ensures.room in
    let room = c.in_ok-reserve.ensures.room in
    journaled_after g.row.CAP inside e _ c.self.invariant enabled c.keeps_row.ensures c.in_ok-game.ensures.ok items
    (c.self.invariant.out ∙ sym (as_many_admitted inside.games.lanes row)) (omega (arith, used, same, room))
