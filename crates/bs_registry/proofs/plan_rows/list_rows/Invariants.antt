-- the rows so far, then the remaining ones
use Rattle.std.proofs.Common.{◌≡◌, ◌++◌, drop}
use Rattle.bs_registry.specs.Registry.{listed_from}
use Rattle.bs_registry.specs.inner.OpenStays.{nothing_kept}
use Rattle.bs_registry.proofs.plan_rows.list_rows.Given as goal

abbrev pub invariant-loop-number : goal.invariant-loop-number
invariant-loop-number l = l.stays.items ++ listed_from nothing_kept l.number (drop l.number l.rows) ≡ listed_from nothing_kept 0 l.rows
