-- The open stays listed so far, then those still to come.
use Rattle.std.proofs.Common.{◌≡◌, ◌++◌, drop}
use Rattle.bs_registry.specs.Registry.{rows_open}
use Rattle.bs_sched.proofs.ListedStays.{open_in}
use Rattle.bs_sched.proofs.games.list_open.Given as goal

abbrev pub invariant-loop-number : goal.invariant-loop-number
invariant-loop-number g l = rows_open l.stays.items ++ open_in l.number (drop l.number l.games) ≡ open_in 0 l.games
