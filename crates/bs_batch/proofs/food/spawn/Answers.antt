use Rattle.std.proofs.Common.{◌≡◌, ◌-◌, ◌<◌, ◌≤◌, ◌∙◌, ap, arith, length, min, refl, take}
use Rattle.std.proofs.lemmas.List.{take_min}
use Rattle.bs_batch.proofs.FoodMissing.{chance_met, chance_not_met, spawned_by_chance, spawned_missing, too_few_words}
use Rattle.bs_batch.proofs.food.spawn.Goals as goal

pub returns-then-missing-gt0-clause-board : goal.returns-then-missing-gt0-clause-board
returns-then-missing-gt0-clause-board c bodies b shows listed room can =
    let few : length b.food < b.min_food = omega (arith, shows.settings.min_food, listed.count, c.if-missing-gt0.true, c.saturating_sub-missing.ensures, c.from.ensures) in
    let missing : c.from-then-missing-gt0.result ≡ b.min_food - length b.food =
    omega (arith, shows.settings.min_food, listed.count, c.from-then-missing-gt0.ensures, c.saturating_sub-missing.ensures, c.from.ensures) in
    let used : take c.min-few.result c.args.words.now ≡ take (b.min_food - length b.food) c.args.words.now =
    ap (λ n. take n c.args.words.now) (c.min-few.ensures ∙ ap (λ n. min n (length c.args.words.now)) missing) ∙ take_min (b.min_food - length b.food) c.args.words.now in
    rw (spawned_missing c.args.words.now b few) (rw used at (c.place_missing.ensures.board bodies b shows listed room can))

pub returns-in_default-clause-board : goal.returns-in_default-clause-board
returns-in_default-clause-board c bodies b shows listed room can =
    let enough : b.min_food ≤ length b.food = omega (arith, shows.settings.min_food, listed.count, c.if-missing-gt0.false, c.saturating_sub-missing.ensures, c.from.ensures) in
    rw (spawned_by_chance c.args.words.now b enough, too_few_words c.args.words.now b c.in_default.len_below) (record { seats = shows; list = listed; long = refl })

pub returns-then-first-from-clause-board : goal.returns-then-first-from-clause-board
returns-then-first-from-clause-board c bodies b shows listed room can =
    let enough : b.min_food ≤ length b.food = omega (arith, shows.settings.min_food, listed.count, c.if-missing-gt0.false, c.saturating_sub-missing.ensures, c.from.ensures) in
    rw (
      spawned_by_chance c.args.words.now b enough,
      chance_met c.args.words.now b c.in-len2-up.len_at_least (omega (arith, shows.settings.chance, c.if-first-from.true, c.from-in-len2-up.ensures)),
    ) (c.place_food.ensures.board bodies b shows listed room can)

pub returns-else-first-from-clause-board : goal.returns-else-first-from-clause-board
returns-else-first-from-clause-board c bodies b shows listed room can =
    let enough : b.min_food ≤ length b.food = omega (arith, shows.settings.min_food, listed.count, c.if-missing-gt0.false, c.saturating_sub-missing.ensures, c.from.ensures) in
    rw (
      spawned_by_chance c.args.words.now b enough,
      chance_not_met c.args.words.now b c.in-len2-up.len_at_least (omega (arith, shows.settings.chance, c.if-first-from.false, c.from-in-len2-up.ensures)),
    ) (record { seats = shows; list = listed; long = refl })
