use Rattle.std.proofs.Common.{arith}
use Rattle.bs_batch.proofs.MovedAt.{less_room}
use Rattle.bs_batch.proofs.Replenished.{has_food, has_grown}
use Rattle.bs_batch.proofs.turns.replenish.Goals as goal

pub returns-then-head-eq-CONSTRICTOR-clause-board : goal.returns-then-head-eq-CONSTRICTOR-clause-board
returns-then-head-eq-CONSTRICTOR-clause-board c b orders shows room can spawns words food =
    has_grown orders b c.args.head.now.settings.mode c.grow.new.head c.args.food.now c.args.bodies.now c.grow.new.plane c.grow.new.bodies
    shows.seats.settings.mode c.if-head-eq-CONSTRICTOR.true (c.grow.ensures.board b shows.seats room can) (rw c.grow.ensures.foods shows.food)

pub returns-clause-board : goal.returns-clause-board
returns-clause-board c b orders shows room can spawns words food =
    has_food orders c.args.words.now b c.args.head.now.settings.mode c.spawn.new.head c.args.food.now c.spawn.new.food c.spawn.new.plane c.args.bodies.now
    shows.seats.settings.mode c.if-head-eq-CONSTRICTOR.false words food
    (c.spawn.ensures.board c.args.bodies.now b shows.seats shows.food (less_room b 8 0 (omega arith) room) spawns)
