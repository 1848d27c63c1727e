use Rattle.std.proofs.Common.{◌≡◌, ℕ, ◌<◌, false, get_or, IfSome}
use Rattle.core.specs.Mem.Slots.{slots_items, slots_filled, slots_len, IsFull}
use Rattle.core.specs.Mem.Slots.Ownership.{Filled}
use Rattle.atomic_table.specs.Table.{Final}
use Rattle.bs_block.specs.Returns.{Returned}
use Rattle.bs_block.specs.inner.Joins.{AreFirst}
use Rattle.bs_block.proofs.group.gather.Given as goal

-- the pieces before this one are joined, and their slots are taken
abbrev pub invariant-loop-number : goal.invariant-loop-number
invariant-loop-number l = record {
  words : IsFull l.closed.words;
  counts : (slots_len l.closed.words ≡ l.fn.layout.count) × (slots_len l.closed.slots ≡ l.fn.layout.count);
  final : Final (Returned l.fn.layout) (slots_items l.closed.words) (slots_items l.closed.slots);
  left : Filled (slots_filled l.closed.slots) l.number (slots_len l.closed.slots);
  taken : (k : ℕ) → k < l.number → get_or (slots_filled l.closed.slots) k false ≡ false;
  whole : IfSome l.whole (AreFirst l.fn.layout l.number);
}
