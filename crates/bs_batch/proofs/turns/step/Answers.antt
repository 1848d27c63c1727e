use Rattle.std.proofs.Common.{arith}
use Rattle.bs_rules.specs.Elimination.{starved_or_outside}
use Rattle.bs_rules.specs.Feeding.{fed}
use Rattle.bs_batch.specs.Shown.{ShowsFood}
use Rattle.bs_batch.specs.inner.Turns.{moved_each}
use Rattle.bs_batch.specs.Hurting.{hurt_all}
use Rattle.bs_batch.proofs.JudgedRoom.{collided_has_room, first_has_room, hurt_has_room}
use Rattle.bs_batch.proofs.LastingBoards.{can_grow, can_move, can_spawn, food_on_board, has_room_for_turn}
use Rattle.bs_batch.proofs.MovedAt.{less_room}
use Rattle.bs_batch.proofs.Survivors.{left}
use Rattle.bs_batch.proofs.Turned.{is_played, next, turn_stays}
use Rattle.bs_batch.proofs.turns.step.Goals as goal

pub returns : goal.returns
returns c = record {
  board = λ b orders shows lasting early lists beside given.
      let moves = c.args.orders.moves.now in
      let words = c.args.orders.words.now in
      let counts = c.args.orders.hazards.counts.now in
      let damage = c.args.orders.hazards.damage in
      let food0 = c.args.food.now in
      let bodies0 = c.args.bodies.now in
      let food1 = c.move_and_feed.new.food in
      let bodies1 = c.move_and_feed.new.bodies in
      let room = has_room_for_turn b lasting early in
      let ate = c.move_and_feed.ensures.board b (record { seats = shows.seats; food = shows.food }) (less_room b 24 16 (omega arith) room)
      (can_move b lasting early bodies0 food0 lists) lists.few (food_on_board b lasting early) in
      let meal = fed (moved_each moves b) in
      let roomy0 = ate.room 8 (less_room b 24 24 (omega arith) room) in
      let after = hurt_all counts damage meal in
      let harmed = c.hurt.ensures.board meal ate.shows.seats (less_room meal 8 0 (omega arith) roomy0) in
      let roomy = hurt_has_room counts damage meal 8 roomy0 in
      let first = c.first_out.ensures.board after harmed (less_room after 8 0 (omega arith) roomy) in
      let roomy1 = first_has_room after 8 roomy in
      let hit = c.collide.ensures.board (starved_or_outside after) first (less_room (starved_or_outside after) 8 0 (omega arith) roomy1) in
      let roomy2 = collided_has_room (starved_or_outside after) 8 roomy1 in
      let list : ShowsFood c.collide.new.head.foods food1 (left moves counts damage b).food = rw (c.collide.ensures.foods, c.first_out.ensures.foods, c.hurt.ensures.foods) ate.shows.food in
      let filled = c.replenish.ensures.board (left moves counts damage b) orders (record { seats = hit; food = list }) roomy2
      (can_grow b lasting early bodies0 food0 lists moves counts damage bodies1 c.move_and_feed.auto.bodies)
      (can_spawn b lasting early bodies0 food0 lists moves counts damage food1 c.move_and_feed.auto.food) given.given given.food in
      let n = next moves words counts damage b orders given lasting early beside in
      let turn = turn_stays moves words counts damage b orders given lasting early beside in
      let ended = c.end_turn.ensures.board c.replenish.new.food c.replenish.new.plane c.replenish.new.bodies n filled (omega arith) in
      is_played moves words counts damage b orders given lasting early beside c.end_turn.new.head c.replenish.new.food c.replenish.new.plane c.replenish.new.bodies ended;
}
