use Rattle.std.proofs.Common.{List, subst, sym, ℕ}
use Rattle.std.proofs.lemmas.Result.{IfOk-weaker}
use Rattle.bs_board.specs.commands.Orders.{Orders}
use Rattle.bs_food.specs.Spawning.{spawned}
use Rattle.bs_rules.specs.Turn.{refilled}
use Rattle.bs_plane.specs.Food.{HasFood}
use Rattle.bs_plane.specs.Turn.{fed_onward}
use Rattle.bs_plane.proofs.stepper.refill_food.Goals as goal

pub returns : goal.returns
returns c =
    IfOk-weaker c.give.result _ _
    (λ done gives is b moves of bytes shows listed none.
    let left = c.in_ok-leave_food.ensures c.if-not-branch.false b moves of bytes shows listed none in
    let x = fed_onward b moves in
    let new = c.in_ok-spawn.ensures c.if-not-branch-2.false x (record { min_food = sym of.min_food; percent = sym of.chance }) left in
    let spawns : HasFood (spawned c.orders.inside.words x) c.spawn.new.plane c.spawn.new.into.items =
    subst (λ (w : List ℕ). HasFood (spawned w x) c.spawn.new.plane c.spawn.new.into.items) c.as_slice-words.ensures.value new in
    subst (λ (o : Orders). HasFood (refilled o x) c.give.new.plane c.give.new.into.items) c.orders.view_is (gives is (spawned c.orders.inside.words x) spawns))
    c.give.ensures
