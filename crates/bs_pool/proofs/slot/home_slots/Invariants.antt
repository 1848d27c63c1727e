use Rattle.std.proofs.Common.{◌≡◌, ◌+◌, ◌-◌, ◌≤◌, length, replicate, None, vec_len, vec_capacity}
use Rattle.bs_pool.proofs.slot.home_slots.Given as goal

abbrev pub invariant-loop : goal.invariant-loop
invariant-loop g l =
    record {
      slots : l.slots.items ≡ replicate l.counter None;
      room : vec_len l.slots + (l.n - l.counter) ≤ vec_capacity l.slots;
      blocks : length l.blocks.items + l.counter ≡ length l.fn.blocks.items;
    }
