-- The stays so far, then the slots that are left.
use Rattle.std.proofs.Common.{◌≡◌, ◌++◌, map, Some}
use Rattle.bs_workers.proofs.apart.in_order.Given as goal

abbrev pub invariant-loop-slot : goal.invariant-loop-slot
invariant-loop-slot g l = map Some l.stays.items ++ l.slot-iterator.rest.items ≡ l.fn.slots.items
