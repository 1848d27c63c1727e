use Rattle.std.proofs.Common.{◌∙◌, get_or, refl}
use Rattle.std.proofs.lemmas.List.{take_all}
use Rattle.bs_batch.proofs.FoodMissing.{one_food_more}
use Rattle.bs_batch.proofs.food.place_missing.Goals as goal

pub loop-word-preserved : goal.loop-word-preserved
loop-word-preserved c = record {
  settings = c.place_food.ensures.settings ∙ c.loop-word.invariant.settings;
  board = one_food_more c.args.words.now c.loop-word.word-index (get_or c.args.words.now c.loop-word.word-index 0) c.args.head.now c.args.food.now c.args.plane.now
      c.loop-word.head c.loop-word.food c.loop-word.plane c.place_food.new.head c.place_food.new.food c.place_food.new.plane c.loop-word-test.true refl
      c.loop-word.invariant.board c.place_food.ensures.board;
}

pub returns-clause-board : goal.returns-clause-board
returns-clause-board c bodies b shows listed room can =
    rw (take_all c.loop-word.word-index c.args.words.now c.loop-word-test.false) at (c.loop-word.invariant.board bodies b shows listed room can)
