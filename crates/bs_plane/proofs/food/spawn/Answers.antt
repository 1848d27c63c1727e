use Rattle.std.proofs.Common.{◌≡◌, ◌*◌, ◌/◌, ◌-◌, ◌<◌, ◌≤◌, ◌∙◌, ap, arith, length, min, take}
use Rattle.std.proofs.lemmas.List.{take_min}
use Rattle.std.proofs.lemmas.Result.{IfOk-weaker}
use Rattle.bs_plane.proofs.KeptFood.{food_length}
use Rattle.bs_plane.proofs.NewFood.{spawned_by_chance, spawned_missing}
use Rattle.bs_plane.proofs.food.spawn.Goals as goal

pub returns-then-foods-least : goal.returns-then-foods-least
returns-then-foods-least c =
    IfOk-weaker c.place_missing.result _ _
    (λ done adds is b by has.
    let long : length c.args.into.now.items ≡ 2 * length b.food = ap length has.written ∙ food_length b.food in
    let few : length b.food < b.min_food = omega (arith, by.min_food, long, c.if-foods-least.true, c.len-foods.ensures, c.from-least.ensures) in
    let missing : c.from-least.result - c.len-foods.result / 2 ≡ b.min_food - length b.food = omega (arith, by.min_food, long, c.len-foods.ensures, c.from-least.ensures) in
    let used : take c.min-count.result c.args.words.now ≡ take (b.min_food - length b.food) c.args.words.now =
    ap (λ n. take n c.args.words.now) (c.min-count.ensures ∙ ap (λ n. min n (length c.args.words.now)) missing) ∙ take_min (b.min_food - length b.food) c.args.words.now in
    rw (spawned_missing c.args.words.now b few) (rw used at (adds is b has)))
    c.place_missing.ensures

pub returns-else-foods-least : goal.returns-else-foods-least
returns-else-foods-least c =
    IfOk-weaker c.place_by_chance.result _ _
    (λ done adds is b by has.
    let long : length c.args.into.now.items ≡ 2 * length b.food = ap length has.written ∙ food_length b.food in
    let enough : b.min_food ≤ length b.food = omega (arith, by.min_food, long, c.if-foods-least.false, c.len-foods.ensures, c.from-least.ensures) in
    rw (spawned_by_chance c.args.words.now b enough) (adds is b by.percent has))
    c.place_by_chance.ensures
