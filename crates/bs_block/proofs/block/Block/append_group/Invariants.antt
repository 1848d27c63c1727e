use Rattle.std.proofs.Common.{◌≡◌, ◌+◌, ◌-◌, ◌≤◌, ◌++◌, [], replicate, vec_len, vec_capacity}
use Rattle.std.specs.Arc.{arc_value}
use Rattle.bs_block.proofs.block.Block.append_group.Given as goal

-- the blocks before this one are appended
abbrev pub invariant-loop : goal.invariant-loop
invariant-loop g l =
    record {
      blocks : l.blocks.items ≡ l.fn.blocks.items ++ replicate l.counter [];
      room : vec_len l.blocks + (l.n - l.counter) ≤ vec_capacity l.blocks;
      next : l.left.next ≡ l.counter;
      layout : ((arc_value l.left.group).layout.size ≡ g.row.CAP) × ((arc_value l.left.group).layout.count ≡ l.n);
    }
