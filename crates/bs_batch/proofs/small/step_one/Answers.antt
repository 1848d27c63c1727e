use Rattle.std.proofs.Common.{◌≡◌, arith, length, refl, sym, ◌∙◌, rules}
use Rattle.std.proofs.lemmas.Bool.{false≢true}
use Rattle.bs_batch.proofs.Stepping.{plays_game, plays_none}
use Rattle.bs_batch.proofs.small.step_one.Goals as goal

pub returns : goal.returns
returns c =
    let food : length c.args.game.now.food ≡ 121 = search rules in
    let bodies : length c.args.game.now.bodies ≡ 1000 = search rules in
    record {
      plays = plays_game 11 c.args.orders.moves.now c.args.orders.words.now c.args.orders.hazards.counts.now c.args.orders.hazards.damage c.args.game.now.head c.args.game.now.food c.args.game.now.plane c.args.game.now.bodies
          c.step.new.head c.step.new.food c.step.new.plane c.step.new.bodies (omega arith) (omega arith) (omega arith) (omega arith) c.step.ensures.board;
      stays = λ closed. absurd (closed (c.may_step.ensures.exactly.0 c.if-not-may_step.false));
    }

pub returns-then-not-may_step : goal.returns-then-not-may_step
returns-then-not-may_step c = record {
  plays = plays_none 11 c.args.orders.moves.now c.args.orders.words.now c.args.orders.hazards.counts.now c.args.orders.hazards.damage c.args.game.now.head c.args.game.now.food c.args.game.now.plane c.args.game.now.bodies
      (λ may. false≢true (sym c.if-not-may_step.true ∙ c.may_step.ensures.exactly.1 may));
  stays = λ _. refl;
}
