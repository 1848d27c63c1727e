-- The list has one game.
use Rattle.std.proofs.Common.{length, ap, subst, ◌∙◌}
use Rattle.bs_sched.specs.Games.{GamesView}
use Rattle.bs_sched.specs.inner.LoneStays.{HasOneStay}
use Rattle.bs_sched.proofs.LoneStays.{one_lone}
use Rattle.bs_sched.proofs.games.Games.keeps_one.Goals as goal

pub returns : goal.returns
returns g c =
    let inside = c.self.inside in
    let one = ap (λ (v : GamesView). length v.lanes) c.self.view_is ∙ c.requires in
    subst (λ (v : GamesView). HasOneStay v.storage) c.self.view_is (one_lone inside.list.items inside.pool one)
