use Rattle.std.proofs.Common.{◌≡◌, ◌+◌, ◌-◌, ◌≤◌, ◌++◌, vec_len, vec_capacity}
use Rattle.std.specs.List.{range_with_len}
use Rattle.bs_pool.proofs.free_numbers.append_numbers.Given as goal

abbrev pub invariant-loop-number : goal.invariant-loop-number
invariant-loop-number l =
    record {
      items : l.low.items ≡ l.fn.low.items ++ range_with_len l.next (l.number - l.next);
      room : vec_len l.low + (l.next + l.more - l.number) ≤ vec_capacity l.low;
    }
