use Rattle.std.proofs.Common.{◌≡◌, ◌++◌, map, take, drop, vec_capacity}
use Rattle.bs_heap.specs.inner.Renaming.{number_at, renamed_owned}
use Rattle.bs_heap.proofs.blocks.rename_blocks.Given as goal

-- the blocks before the counter are renamed, and the others are as they were
abbrev pub invariant-loop-at : goal.invariant-loop-at
invariant-loop-at g l =
    record {
      items : l.blocks.items ≡ map (renamed_owned l.tag (number_at l.numbers)) (take l.at l.fn.blocks.items) ++ drop l.at l.fn.blocks.items;
      room : vec_capacity l.blocks ≡ vec_capacity l.fn.blocks;
    }
