use Rattle.std.proofs.Common.{◌≡◌, ◌*◌, ◌≤◌, take}
use Rattle.bs_registry.specs.Blocks.{blocks_of_all}
use Rattle.bs_registry.proofs.blocks.blocks_of_all.Given as goal

-- the rows added so far
abbrev pub invariant-loop-row : goal.invariant-loop-row
invariant-loop-row l = (l.total ≡ blocks_of_all l.cap (take l.row-index l.rows)) × (l.total ≤ 70 * l.row-index)
