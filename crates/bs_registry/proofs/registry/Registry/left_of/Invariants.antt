-- the stays so far, then the remaining ones
use Rattle.std.proofs.Common.{◌≡◌, ◌-◌, drop}
use Rattle.bs_registry.specs.OpenStays.{blocks_in}
use Rattle.bs_registry.specs.Registry.{rows_in}
use Rattle.bs_registry.proofs.registry.Registry.left_of.Given as goal

abbrev pub invariant-loop-index : goal.invariant-loop-index
invariant-loop-index g l = l.left - blocks_in l.cap (drop l.index (rows_in l.self)) ≡ l.blocks - blocks_in l.cap (rows_in l.self)
