use Rattle.bs_batch.specs.Showing.{IsSmallBoard}
use Rattle.bs_batch.proofs.ShownGames.{GamesSoFar}
use Rattle.bs_batch.proofs.small.show_small.Given as goal

-- the planes of the games so far
abbrev pub invariant-loop-number : goal.invariant-loop-number
invariant-loop-number l = GamesSoFar IsSmallBoard l.games l.each l.number l.into
