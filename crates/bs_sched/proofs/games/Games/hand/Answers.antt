use Rattle.std.proofs.Common.{◌≡◌, true, sym, ap, ◌∙◌}
use Rattle.bs_sched.specs.Games.{GamesView, after}
use Rattle.bs_sched.specs.Lane.{Lane}
use Rattle.bs_sched.specs.declared.event.Event.TheVariants as event
use Rattle.bs_sched.specs.inner.Game.{handed_game}
use Rattle.bs_sched.proofs.ChangedGame.{leaves_all}
use Rattle.bs_sched.proofs.ChangedGames.{at_open, handed_blocks, handed_stay, handed_view, sound_game, stay_there}
use Rattle.bs_sched.proofs.Results.{on_ok}
use Rattle.bs_sched.proofs.games.Games.hand.Goals as goal

pub invariant_of-self : goal.invariant_of-self
invariant_of-self g c =
    let inside = c.self.inside in
    let v = c.index_mut.result.now in
    let w = c.hand.new.self in
    let here = stay_there inside c.args.self.now c.args.game v c.self.view_is c.requires.game c.index_mut.ensures.value in
    let stands : v.lane.is_open ≡ true = ap (λ (x : Lane). x.is_open) (sym here.lane) ∙ c.requires.«open» in
    let at = at_open g.row.CAP inside c.args.self.now c.args.game v c.self.invariant here stands in
    sound_game g.row.CAP inside c.args.game v w inside.pool c.self.invariant here.within here.there stands
    (handed_stay c.hand.result v w c.args.command c.hand.ensures.ok c.hand.ensures.err)
    (handed_blocks c.hand.result g.row.CAP v w c.args.command inside.pool c.hand.ensures.ok c.hand.ensures.err at.row.blocks)
    (leaves_all v.tag v.frames.tag inside.pool)

pub returns-clause-ok : goal.returns-clause-ok
returns-clause-ok g c =
    let inside = c.self.inside in
    let v = c.index_mut.result.now in
    let w = c.hand.new.self in
    let here = stay_there inside c.args.self.now c.args.game v c.self.view_is c.requires.game c.index_mut.ensures.value in
    on_ok c.hand.result
    (λ (is : w ≡ handed_game c.args.command v).
    handed_view g.row.CAP inside c.args.game c.args.command v w here.there is ∙ ap (λ (u : GamesView). after g.row.CAP u (event.Hand c.args.game c.args.command)) c.self.view_is)
    c.hand.ensures.ok
