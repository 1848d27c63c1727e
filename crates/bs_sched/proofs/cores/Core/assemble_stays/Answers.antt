-- What is gathered of the stays is the core of all of them.
use Rattle.std.proofs.Common.{◌≡◌, length, refl, sym, ap, subst, ◌∙◌, arith}
use Rattle.std.specs.Prelude.{All}
use Rattle.std.proofs.lemmas.Result.{IfOk-weaker}
use Rattle.bs_pool.specs.Ledger.{Ledger}
use Rattle.bs_sched.specs.Core.{without_tallies}
use Rattle.bs_sched.specs.Games.{GamesView}
use Rattle.bs_sched.specs.inner.Assembling.{games_of}
use Rattle.bs_sched.specs.inner.Journal.{core_of}
use Rattle.bs_sched.specs.Journal.{IsItsJournal}
use Rattle.bs_sched.proofs.Idle.{IsIdle}
use Rattle.bs_sched.proofs.StaysTogether.{next_stays, whole_stays}
use Rattle.bs_sched.proofs.cores.Core.assemble_stays.Goals as goal

pub gather_stays-requires : goal.gather_stays-requires
gather_stays-requires g c =
    let r = c.args.rest in
    let held = c.requires.held in
    let next = next_stays g.row.CAP r.blocks r.workers (length r.free.items) r.rows c.args.stays.items c.args.order.items c.requires.hosted c.requires.blocks
    held.acts held.played held.were _ _ _ c.in_ok-with_capacity.ensures.items c.in_ok-with_capacity-2.ensures.items c.in_ok-new.ensures in
    (omega arith, (omega arith, next))

pub unmerged-journal-requires : goal.unmerged-journal-requires
unmerged-journal-requires g c =
    let r = c.args.rest in
    let held = c.requires.held in
    let whole = whole_stays g.row.CAP r.blocks r.workers (length r.free.items) r.rows c.args.stays.items c.args.order.items c.requires.hosted c.requires.blocks
    held.acts held.played held.were _ _ _ c.in_ok-with_capacity.ensures.items c.in_ok-with_capacity-2.ensures.items c.in_ok-new.ensures
    _ _ _ _ c.in_ok-list.ensures refl in
    let few = whole.few in
    omega (arith, few)

pub finish-requires : goal.finish-requires
finish-requires g c =
    let r = c.args.rest in
    let held = c.requires.held in
    let whole = whole_stays g.row.CAP r.blocks r.workers (length r.free.items) r.rows c.args.stays.items c.args.order.items c.requires.hosted c.requires.blocks
    held.acts held.played held.were _ _ _ c.in_ok-with_capacity.ensures.items c.in_ok-with_capacity-2.ensures.items c.in_ok-new.ensures
    _ _ _ _ c.in_ok-list.ensures c.unmerged-journal.ensures.events in
    (omega arith, (omega arith, whole.none_missing))

pub of_list-requires : goal.of_list-requires
of_list-requires g c =
    let r = c.args.rest in
    let held = c.requires.held in
    let whole = whole_stays g.row.CAP r.blocks r.workers (length r.free.items) r.rows c.args.stays.items c.args.order.items c.requires.hosted c.requires.blocks
    held.acts held.played held.were _ _ _ c.in_ok-with_capacity.ensures.items c.in_ok-with_capacity-2.ensures.items c.in_ok-new.ensures
    _ _ _ _ c.in_ok-list.ensures c.unmerged-journal.ensures.events in
    let pool = c.in_ok-pool.ensures in
    let list = c.in_ok-list.field-0.list.items in
    let events = c.unmerged-journal.result.events in
    let led = subst (λ (p : Ledger). IsItsJournal g.row.CAP (core_of (games_of r.rows r.workers list p) events)) (sym pool) whole.journal in
    (omega arith, (omega arith, (omega arith, (c.requires.workers, ((events, led), whole.placed)))))

pub of_games-requires : goal.of_games-requires
of_games-requires g c =
    let r = c.args.rest in
    let held = c.requires.held in
    let whole = whole_stays g.row.CAP r.blocks r.workers (length r.free.items) r.rows c.args.stays.items c.args.order.items c.requires.hosted c.requires.blocks
    held.acts held.played held.were _ _ _ c.in_ok-with_capacity.ensures.items c.in_ok-with_capacity-2.ensures.items c.in_ok-new.ensures
    _ _ _ _ c.in_ok-list.ensures c.unmerged-journal.ensures.events in
    let list = c.in_ok-list.field-0.list.items in
    let events = c.unmerged-journal.result.events in
    let games : c.in_ok-games.games ≡ games_of r.rows r.workers list c.in_ok-list.field-0.assembly.ledger
    = c.in_ok-games.ensures ∙ ap (games_of r.rows r.workers list) c.in_ok-pool.ensures in
    let journal = subst (λ (v : GamesView). IsItsJournal g.row.CAP (core_of v events)) (sym games) whole.journal in
    (omega arith, (omega arith, (journal, (c.unmerged-journal.ensures.room, subst (λ (v : GamesView). All IsIdle v.lanes) (sym games) whole.idle))))

pub returns : goal.returns
returns g c =
    let r = c.args.rest in
    let list = c.in_ok-list.field-0.list.items in
    let events = c.unmerged-journal.result.events in
    let games : c.in_ok-games.games ≡ games_of r.rows r.workers list c.in_ok-list.field-0.assembly.ledger
    = c.in_ok-games.ensures ∙ ap (games_of r.rows r.workers list) c.in_ok-pool.ensures in
    IfOk-weaker c.of_games.result _ _ (λ core is acts played were.
    let whole = whole_stays g.row.CAP r.blocks r.workers (length r.free.items) r.rows c.args.stays.items c.args.order.items c.requires.hosted c.requires.blocks
    acts played were _ _ _ c.in_ok-with_capacity.ensures.items c.in_ok-with_capacity-2.ensures.items c.in_ok-new.ensures
    _ _ _ _ c.in_ok-list.ensures c.unmerged-journal.ensures.events in
    ap without_tallies (is ∙ ap (λ v. core_of v events) games) ∙ whole.whole_is) c.of_games.ensures
