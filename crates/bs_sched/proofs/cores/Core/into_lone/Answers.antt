-- The only game with the core's events and blocks.
use Rattle.std.proofs.Common.{ap, subst, ◌∙◌}
use Rattle.bs_sched.specs.Games.{GamesView}
use Rattle.bs_sched.specs.inner.Assembling.{IsOnly}
use Rattle.bs_sched.proofs.LoneStays.{is_kept}
use Rattle.bs_sched.proofs.cores.Core.into_lone.Goals as goal

pub returns : goal.returns
returns g c =
    let only = subst (λ (v : GamesView). IsOnly v c.into_only-game.result.0) c.into_games_and_journal-games.ensures.games c.into_only-game.ensures.game in
    is_kept c.args.self c.into_only-game.result.0 c.into_games_and_journal-games.result.1.events c.into_only-game.result.1 only
    c.into_games_and_journal-games.ensures.journal
    (c.into_only-game.ensures.pool ∙ ap (λ (v : GamesView). v.storage.pool) c.into_games_and_journal-games.ensures.games)
