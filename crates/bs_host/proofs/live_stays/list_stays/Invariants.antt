-- the stays so far, then the remaining rows
use Rattle.std.proofs.Common.{◌≡◌, ◌++◌, drop}
use Rattle.bs_registry.specs.Registry.{listed_from}
use Rattle.bs_host.specs.inner.LiveHost.{live_stay}
use Rattle.bs_host.proofs.live_stays.list_stays.Given as goal

abbrev pub invariant-loop-number : goal.invariant-loop-number
invariant-loop-number l = l.stays.items ++ listed_from live_stay l.number (drop l.number l.rows) ≡ listed_from live_stay 0 l.rows
