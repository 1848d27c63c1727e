-- The games without their only stay's records.
use Rattle.std.proofs.Common.{◌≡◌, ◌<◌, true, length, ap, sym, subst, ◌∙◌, arith}
use Rattle.std.proofs.lemmas.List.{length-append}
use Rattle.bs_pool.specs.Ledger.{Ledger, free, size}
use Rattle.bs_sched.specs.declared.event.Event.TheVariants as event
use Rattle.bs_sched.specs.Games.{GamesView, after}
use Rattle.bs_sched.specs.Lane.{may_leave}
use Rattle.bs_sched.specs.Machine.{lane_of}
use Rattle.bs_sched.specs.inner.Assembling.{IsOnly}
use Rattle.bs_sched.specs.inner.LoneStays.{HasOneStay}
use Rattle.bs_sched.proofs.LoneStays.{blocks_left, is_left, may_go, one_left}
use Rattle.bs_sched.proofs.cores.Core.close_alone.Goals as goal

pub keeps_one-requires : goal.keeps_one-requires
keeps_one-requires g c =
    let one = subst (λ (v : GamesView). length v.lanes ≡ 1) (sym c.into_games_and_journal-games.ensures.games) c.requires.one in
    (omega arith, one)

pub leave-requires : goal.leave-requires
leave-requires g c =
    let same = sym c.into_games_and_journal-games.ensures.games in
    let one = c.requires.one in
    let there = subst (λ (v : GamesView). 0 < length v.lanes) same (omega (arith, one)) in
    let may = may_go c.args.self.games.lanes one c.requires.open c.requires.quiet in
    (omega arith, (there, subst (λ (v : GamesView). may_leave (lane_of v.lanes 0) ≡ true) same may))

pub into_only-game-requires : goal.into_only-game-requires
into_only-game-requires g c =
    let may = may_go c.args.self.games.lanes c.requires.one c.requires.open c.requires.quiet in
    let left : c.leave.new.self ≡ after g.row.CAP c.args.self.games (event.Leave 0)
    = c.leave.ensures ∙ ap (λ (v : GamesView). after g.row.CAP v (event.Leave 0)) c.into_games_and_journal-games.ensures.games in
    let many = one_left g.row.CAP c.args.self c.journal-events.ensures.journal c.requires.one may in
    (omega arith, (omega arith, (omega arith, ap (λ (v : GamesView). length v.lanes) left ∙ many)))

pub returns-clause-left : goal.returns-clause-left
returns-clause-left g c =
    let may = may_go c.args.self.games.lanes c.requires.one c.requires.open c.requires.quiet in
    let left : c.leave.new.self ≡ after g.row.CAP c.args.self.games (event.Leave 0)
    = c.leave.ensures ∙ ap (λ (v : GamesView). after g.row.CAP v (event.Leave 0)) c.into_games_and_journal-games.ensures.games in
    let only = subst (λ (v : GamesView). IsOnly v c.into_only-game.result.0) left c.into_only-game.ensures.game in
    is_left g.row.CAP c.args.self c.journal-events.ensures.journal c.requires.one may c.into_only-game.result.0
    c.into_games_and_journal-games.result.1.events only c.into_games_and_journal-games.ensures.journal

pub returns-clause-blocks : goal.returns-clause-blocks
returns-clause-blocks g c =
    let may = may_go c.args.self.games.lanes c.requires.one c.requires.open c.requires.quiet in
    let left : c.leave.new.self ≡ after g.row.CAP c.args.self.games (event.Leave 0)
    = c.leave.ensures ∙ ap (λ (v : GamesView). after g.row.CAP v (event.Leave 0)) c.into_games_and_journal-games.ensures.games in
    let lone = subst (λ (v : GamesView). HasOneStay v.storage) c.into_games_and_journal-games.ensures.games c.keeps_one.ensures in
    let many : length c.in_ok-freed.freed.items ≡ size c.args.self.games.storage.pool
    = c.in_ok-freed.ensures
    ∙ ap (λ (p : Ledger). free p) (c.into_only-game.ensures.pool ∙ ap (λ (v : GamesView). v.storage.pool) left)
    ∙ blocks_left g.row.CAP c.args.self c.journal-events.ensures.journal c.requires.one may lone in
    let all = ap length c.in_ok-append.ensures.items in
    let long = length-append c.args.blocks.now.items c.in_ok-freed.freed.items in
    omega (arith, many, all, long)
