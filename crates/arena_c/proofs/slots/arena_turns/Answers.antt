use Rattle.std.proofs.Common.{◌≡◌, ℕ, ◌+◌, ◌-◌, ◌*◌, ◌/◌, ◌<◌, ◌≤◌, length, min, ap, arith, refl}
use Rattle.std.proofs.lemmas.List.{get_or_default}
use Rattle.arena_c.specs.Slots.{PlaysSlot, slot_bytes, turn_of_game}
use Rattle.arena_c.proofs.InSlots.{one_more, slots_fit}
use Rattle.arena_c.proofs.slots.arena_turns.Goals as goal

pub loop-number-preserved : goal.loop-number-preserved
loop-number-preserved c =
    let i = c.loop-number.number in
    let size = length c.args.records.now in
    let games = length c.args.lengths.now in
    let each = slot_bytes c.args.records.now c.args.lengths.now in
    let slots = min games (length c.args.statuses.now) in
    let e : size / c.max.result ≡ each = ap (λ n. size / n) c.max.ensures in
    let at : i * (size / c.max.result) ≡ i * each = ap (λ n. i * n) e in
    let low : i < slots = omega arith in
    let room = slots_fit size games i each refl (omega arith) in
    let long = c.loop-number.invariant.records_long in
    let lengths_long = c.loop-number.invariant.lengths_long in
    let part : i * (size / c.max.result) + size / c.max.result - i * (size / c.max.result) ≡ each = omega arith in
    one_more (λ k. PlaysSlot (turn_of_game c.args.orders.now k)) each slots i (i * (size / c.max.result)) (i * (size / c.max.result) + size / c.max.result - i * (size / c.max.result)) c.args.records.now c.loop-number.records
    c.turn_slot-status.new.slot c.args.lengths.now c.loop-number.lengths c.args.statuses.now c.loop-number.statuses _ c.turn_slot-status.new.count c.turn_slot-status.result
    c.loop-number.played _ c.from-played.result low (omega arith) (omega arith) (omega arith) at part (omega arith) c.turn_slot-status.auto.slot
    (λ d. get_or_default c.loop-number.lengths i _ d (omega arith)) c.from-played.ensures refl c.turn_slot-status.ensures c.loop-number.invariant
