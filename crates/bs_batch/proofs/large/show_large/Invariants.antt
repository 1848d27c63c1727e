use Rattle.bs_batch.specs.Showing.{IsLargeBoard}
use Rattle.bs_batch.proofs.ShownGames.{GamesSoFar}
use Rattle.bs_batch.proofs.large.show_large.Given as goal

-- the planes of the games so far
abbrev pub invariant-loop-number : goal.invariant-loop-number
invariant-loop-number l = GamesSoFar IsLargeBoard l.games l.each l.number l.into
