use Rattle.std.proofs.Common.{length, min}
use Rattle.arena_c.specs.Slots.{PlaysSlot, slot_bytes, turn_of_game}
use Rattle.arena_c.proofs.InSlots.{SlotsSoFar}
use Rattle.arena_c.proofs.slots.arena_turns.Given as goal

-- the slots so far have played
abbrev pub invariant-loop-number : goal.invariant-loop-number
invariant-loop-number l =
    SlotsSoFar (λ k. PlaysSlot (turn_of_game l.orders k)) (slot_bytes l.fn.records l.fn.lengths) (min (length l.fn.lengths) (length l.fn.statuses)) l.number l.fn.records l.records l.fn.lengths l.lengths l.fn.statuses l.statuses l.played
