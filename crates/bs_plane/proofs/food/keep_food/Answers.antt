use Rattle.std.proofs.Common.{◌≡◌, ◌*◌, ◌<◌, ◌∙◌, ap, arith, length, refl}
use Rattle.bs_plane.proofs.KeptFood.{food_length, kept_all, kept_more}
use Rattle.bs_plane.proofs.food.keep_food.Goals as goal

pub loop-index-preserved : goal.loop-index-preserved
loop-index-preserved c on cells shows is fits =
    let long : length c.args.food.now ≡ 2 * length cells = ap length is ∙ food_length cells in
    let within : c.loop-index.index < length cells = omega (arith, c.loop-index-test.true) in
    kept_more on cells c.args.food.now c.args.into.now.items c.loop-index.into.items c.keep_cell.new.into.items c.loop-index.index _ _ is fits within refl refl
    (c.loop-index.invariant on cells shows is fits) (c.in_ok-keep_cell.ensures c.if-not-branch.false on shows)

pub returns : goal.returns
returns c _ on cells shows is fits =
    kept_all on cells c.args.food.now c.args.into.now.items c.loop-index.into.items c.loop-index.index is (omega (arith, c.loop-index-test.false))
    (c.loop-index.invariant on cells shows is fits)
