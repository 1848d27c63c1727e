use Rattle.std.proofs.Common.{◌≡◌, ◌+◌}
use Rattle.bs_pool.specs.Woven.{woven}
use Rattle.bs_pool.proofs.FreeNumbers.{laid_below}
use Rattle.bs_pool.proofs.free_numbers.lay_owners.Given as goal

abbrev pub invariant-loop-at : goal.invariant-loop-at
invariant-loop-at g l = l.owners.items ≡ woven (λ tag. tag + l.offset) l.fn.owners.items (laid_below l.at l.slots)
