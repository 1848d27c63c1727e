use Rattle.bs_batch.specs.inner.Seats.{moved_by_seat}
use Rattle.bs_batch.proofs.FedAll.{none_eaten, some_eaten}
use Rattle.bs_batch.proofs.turns.move_and_feed.Goals as goal

pub returns-then-not-any-clause-board : goal.returns-then-not-any-clause-board
returns-then-not-any-clause-board c b shows room can few on =
    none_eaten c.args.moves.now b c.args.bodies.now c.move_seats-any.new.bodies c.args.food.now c.move_seats-any.new.head c.move_seats-any.new.plane
    c.move_seats-any.result c.if-not-any.true (c.move_seats-any.ensures.board b shows.seats room can)
    (rw c.move_seats-any.ensures.foods shows.food)

pub returns-clause-board : goal.returns-clause-board
returns-clause-board c b shows room can few on =
    let are = c.move_seats-any.ensures.board b shows.seats room can in
    let left = c.remove_eaten.ensures.board (moved_by_seat c.args.moves.now b) are.shows (rw c.move_seats-any.ensures.foods shows.food) (are.room 0 room) few on in
    some_eaten c.args.moves.now b c.args.bodies.now c.move_seats-any.new.bodies c.move_seats-any.new.head c.remove_eaten.new.head
    c.remove_eaten.new.food c.move_seats-any.new.plane c.remove_eaten.new.plane c.move_seats-any.result are left
