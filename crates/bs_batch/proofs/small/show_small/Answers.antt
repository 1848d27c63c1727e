use Rattle.std.proofs.lemmas.List.{get_or_default}
use Rattle.bs_batch.specs.Showing.{IsSmallBoard}
use Rattle.bs_batch.proofs.ShownGames.{all_games, no_games, one_game}
use Rattle.bs_batch.proofs.small.show_small.Goals as goal

pub loop-number-init : goal.loop-number-init
loop-number-init c = no_games IsSmallBoard c.args.games.now c.args.each c.args.into.now

pub loop-number-preserved : goal.loop-number-preserved
loop-number-preserved c =
    one_game IsSmallBoard c.args.games.now c.args.each c.loop-number.number c.loop-number.into c.show_game.new.into _
    (λ d within. get_or_default c.args.games.now c.loop-number.number d _ within) c.show_game.ensures c.loop-number.invariant

pub returns : goal.returns
returns c = all_games IsSmallBoard c.args.games.now c.args.each c.loop-number.number c.loop-number.into c.loop-number-test.false c.loop-number.invariant
