use Rattle.bs_calls.specs.BySeat.{turn_by_seat}
use Rattle.arena_c.specs.Slots.{turn_of_game}
use Rattle.arena_c.proofs.SlotPlayed.{slot_played}
use Rattle.arena_c.proofs.slots.turn_slot.Goals as goal

pub returns : goal.returns
returns c =
    slot_played (turn_by_seat c.seat_orders-own.result) (turn_of_game c.args.orders.now c.args.number) c.args.slot.now c.turn_in_place.new.slot c.args.count.now c.answered.new.count
    c.answered.result c.turn_in_place.result c.seat_orders-own.ensures c.turn_in_place.ensures.answer c.turn_in_place.ensures.behind c.turn_in_place.ensures.err c.answered.ensures
