use Rattle.bs_batch.specs.Starting.{piece_of}
use Rattle.arena_c.proofs.SlotPlayed.{same_turn}
use Rattle.arena_c.proofs.slots.seat_orders.Goals as goal

pub returns : goal.returns
returns c =
    same_turn c.orders_of-own.result.moves.now (piece_of c.args.orders.now.moves.now c.args.number c.args.orders.now.moves_each) c.orders_of-own.result.words.now
    (piece_of c.args.orders.now.words.now c.args.number c.args.orders.now.words_each) c.orders_of-own.ensures.moves c.orders_of-own.ensures.words
