use Rattle.bs_batch.proofs.Repeated.{none_eaten, one_eaten}
use Rattle.bs_batch.proofs.turns.feed_seat.Goals as goal

pub returns-then-at-lt-FOOD : goal.returns-then-at-lt-FOOD
returns-then-at-lt-FOOD c width height others food s shows room is =
    none_eaten width height others food c.args.seat.now c.args.room.now c.args.plane.now s shows room c.args.head c.at.result is c.at.ensures c.if-at-lt-FOOD.true

pub returns : goal.returns
returns c width height others food s shows room is =
    one_eaten width height others food c.args.seat.now c.args.room.now c.args.plane.now s shows room c.args.head c.at.result c.repeat_last.new.seat c.repeat_last.new.room
    c.repeat_last.new.plane is c.at.ensures c.if-at-lt-FOOD.false c.repeat_last.ensures
