use Rattle.std.proofs.Common.{◌≡◌, ◌++◌, map, take}
use Rattle.bs_pool.specs.inner.Accounts.{raised_account}
use Rattle.bs_pool.proofs.reservation.append_raised.Given as goal

abbrev pub invariant-loop-at : goal.invariant-loop-at
invariant-loop-at l = l.accounts.items ≡ l.fn.accounts.items ++ map (raised_account l.offset) (take l.at l.more)
