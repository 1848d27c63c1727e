use Rattle.std.proofs.Common.{◌≡◌, vec_capacity}
use Rattle.bs_heap.specs.HeldBlocks.{all_given}
use Rattle.bs_heap.specs.inner.Lent.{AreLent, owned_numbers}
use Rattle.bs_heap.proofs.blocks.give_back.Given as goal

-- the remaining blocks are still lent, and giving them too gives all
abbrev pub invariant-loop-owned : goal.invariant-loop-owned
invariant-loop-owned g l =
    record {
      lent : AreLent l.blocks.items l.pool;
      given : all_given (owned_numbers l.blocks.items) l.pool ≡ all_given (owned_numbers l.fn.blocks.items) l.fn.pool;
      room : vec_capacity l.blocks ≡ vec_capacity l.fn.blocks;
    }

abbrev pub decreases-loop-owned : goal.decreases-loop-owned
decreases-loop-owned g l = goal.left-loop-owned g l
