use Rattle.std.proofs.Common.{◌≡◌, map, take}
use Rattle.bs_modes.specs.FirstBoard.{first_snake}
use Rattle.bs_modes.proofs.opening.first_snakes.Given as goal

-- the snakes made so far
abbrev pub invariant-loop-id : goal.invariant-loop-id
invariant-loop-id l = l.seats.items ≡ map first_snake (take l.id-index l.starts)
