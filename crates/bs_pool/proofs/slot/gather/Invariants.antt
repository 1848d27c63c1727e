use Rattle.std.proofs.Common.{◌≡◌, ◌+◌, length}
use Rattle.std.specs.Prelude.{count_by}
use Rattle.bs_pool.specs.Ledger.{is_unowned}
use Rattle.bs_pool.proofs.slot.gather.Given as goal

abbrev pub invariant-loop-slot : goal.invariant-loop-slot
invariant-loop-slot g l = length l.blocks.items + count_by is_unowned l.slots.items ≡ length l.fn.blocks.items + count_by is_unowned l.fn.slots.items

abbrev pub decreases-loop-slot : goal.decreases-loop-slot
decreases-loop-slot g l = length l.slots.items
