use Rattle.std.proofs.Common.{◌≡◌, ◌+◌, length, take}
use Rattle.std.specs.Prelude.{count_by}
use Rattle.bs_pool.specs.Ledger.{is_unowned}
use Rattle.bs_pool.proofs.slot.slots_of.Given as goal

abbrev pub invariant-loop-number : goal.invariant-loop-number
invariant-loop-number g l =
    record {
      items : l.slots.items ≡ take l.number l.owners;
      blocks : length l.blocks.items + count_by is_unowned (take l.number l.owners) ≡ length l.fn.blocks.items;
    }
