use Rattle.std.proofs.Common.{get_or, refl}
use Rattle.std.proofs.lemmas.List.{take_all}
use Rattle.bs_plane.proofs.NewFood.{one_food_more}
use Rattle.bs_plane.proofs.food.place_missing.Goals as goal

pub loop-word-preserved : goal.loop-word-preserved
loop-word-preserved c =
    one_food_more c.args.words.now c.loop-word.word-index (get_or c.args.words.now c.loop-word.word-index 0) c.args.plane.now c.loop-word.plane c.place_food.new.plane
    c.args.into.now.items c.loop-word.into.items c.place_food.new.into.items c.loop-word-test.true refl c.loop-word.invariant (c.in_ok-place_food.ensures c.if-not-branch.false)

pub returns : goal.returns
returns c _ b has = rw (take_all c.loop-word.word-index c.args.words.now c.loop-word-test.false) at (c.loop-word.invariant b has)
