use Rattle.std.proofs.Common.{◌≡◌, ◌<◌, arith, get_or, length, true}
use Rattle.bs_board.specs.boards.Cell.{origin}
use Rattle.bs_board.specs.boards.Legal.{is_near}
use Rattle.bs_rules.proofs.Movable.{near_from_on_board}
use Rattle.bs_batch.proofs.Collided.{judged_from}
use Rattle.bs_batch.proofs.FoodGone.{cell_of, ends, listed_fits, low_after, none_so_far, one_step}
use Rattle.bs_batch.proofs.food.remove_eaten.Goals as goal

pub loop-index-init : goal.loop-index-init
loop-index-init c = record { low = omega arith; board = λ b shows list room few on. none_so_far b c.args.food.now c.args.plane.now shows.counts }

pub loop-index-preserved : goal.loop-index-preserved
loop-index-preserved c = record {
  low = low_after c.is_under_head-gone.result c.loop-index.index c.loop-index.left c.keep_food-left.result c.loop-index.food c.loop-index.plane c.keep_food-left.new.food
      c.keep_food-left.new.plane c.loop-index.invariant.low c.keep_food-left.ensures;
  board = λ b shows list room few on.
      let i = c.loop-index.index in
      let within : i < length b.food = omega (arith, c.loop-index-test.true, c.min-count.ensures, c.from.ensures, list.count) in
      let fits : c.loop-index.left < length c.loop-index.food =
      omega (arith, c.loop-index-test.true, c.min-count.ensures, c.loop-index.auto.food, c.loop-index.invariant.low) in
      let p = get_or b.food i origin in
      let so_far = c.loop-index.invariant.board b shows list room few on in
      let number = cell_of b i c.loop-index.left c.args.food.now c.loop-index.food c.loop-index.plane within list.listed so_far in
      let near : is_near b.width b.height p ≡ true = near_from_on_board b.width b.height p (on i origin within) in
      let seats = judged_from c.args.head.now c.args.plane.now c.args.bodies.now b 0 shows room c.requires.seats in
      one_step b i within c.loop-index.left c.keep_food-left.result c.args.food.now c.loop-index.food c.loop-index.plane c.keep_food-left.new.food
      c.keep_food-left.new.plane c.is_under_head-gone.result (c.is_under_head-gone.ensures b.width b.height b.snakes p seats near number) near
      (omega (arith, room.few p)) number c.loop-index.invariant.low fits so_far c.keep_food-left.ensures;
}

pub returns-clause-board : goal.returns-clause-board
returns-clause-board c b shows list room few on =
    let all = listed_fits c.args.head.now.foods c.args.food.now b.food list.count list.listed in
    let end : c.loop-index.index ≡ length b.food =
    omega (arith, c.loop-index-test.false, c.loop-index.auto.index-end, c.min-count.ensures, c.from.ensures, list.count, all) in
    ends b c.loop-index.index c.loop-index.left c.min.result c.args.head.now c.args.food.now c.loop-index.food c.args.plane.now c.loop-index.plane c.args.bodies.now end
    (omega (arith, end, c.loop-index.invariant.low, c.loop-index.auto.food, all, list.count))
    (omega (arith, end, c.min.ensures, c.loop-index.invariant.low, few, all, list.count)) shows (c.loop-index.invariant.board b shows list room few on)
