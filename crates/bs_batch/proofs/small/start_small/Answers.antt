use Rattle.std.proofs.Common.{arith, refl}
use Rattle.std.proofs.lemmas.List.{get_or_default}
use Rattle.bs_batch.specs.Starting.{StartsSmall}
use Rattle.bs_batch.proofs.StartedGames.{one_started}
use Rattle.bs_batch.proofs.small.start_small.Goals as goal

pub loop-number-preserved : goal.loop-number-preserved
loop-number-preserved c =
    one_started (StartsSmall c.args.first.now) c.loop-number.number c.args.games.now c.loop-number.games c.loop-number.started _ c.from-started.result _ c.start_game-begins.new.game
    c.start_game-begins.result c.loop-number-test.true (omega arith) (λ d. get_or_default c.loop-number.games c.loop-number.number _ d (omega (arith, c.loop-number-test.true, c.loop-number.auto.games))) c.from-started.ensures refl c.loop-number.invariant
    c.start_game-begins.ensures
