use Rattle.std.proofs.Common.{ℕ, arith, slice_index}
use Rattle.bs_batch.specs.declared.layout.LargeGame.{LargeGame}
use Rattle.bs_batch.specs.Games.{StepsLarge, words_of}
use Rattle.bs_batch.specs.Starting.{piece_of}
use Rattle.bs_batch.proofs.EachGame.{one_more, others_rest}
use Rattle.bs_batch.proofs.large.step_large.Goals as goal

pub loop-number-preserved : goal.loop-number-preserved
loop-number-preserved c =
    let moves = c.args.orders.now.moves.now in
    let words = c.args.orders.now.words.now in
    let P = λ (i : ℕ) (old new : LargeGame). StepsLarge (piece_of moves i c.args.orders.now.moves_each) (words_of words i c.args.orders.now.words_each)
    (piece_of c.args.orders.now.hazards.now i c.args.orders.now.hazards_each) (slice_index c.args.orders.now.damages.now i) old new in
    record {
      played = one_more P c.args.games.now c.loop-number.games c.loop-number.number c.step_one.new.game _ (omega (arith, c.loop-number-test.true, c.loop-number.auto.games))
          c.loop-number.auto.games c.loop-number.invariant.rest c.loop-number.invariant.played (rw (c.orders_of.ensures.moves, c.orders_of.ensures.words, c.orders_of.ensures.hazards, c.orders_of.ensures.damage) at c.step_one.ensures);
      rest = others_rest P c.args.games.now c.loop-number.games c.loop-number.number c.step_one.new.game c.step_one.new.game
          (omega (arith, c.loop-number-test.true, c.loop-number.auto.games)) c.loop-number.auto.games c.loop-number.invariant.rest;
    }
