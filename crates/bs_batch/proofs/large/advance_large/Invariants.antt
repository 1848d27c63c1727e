use Rattle.bs_batch.specs.Advancing.{AdvancesLarge}
use Rattle.bs_batch.specs.Showing.{IsLargeBoard}
use Rattle.bs_batch.proofs.Advanced.{PlanesSoFar}
use Rattle.bs_batch.proofs.StartedGames.{StoodStarted}
use Rattle.bs_batch.proofs.large.advance_large.Given as goal

-- the games so far have advanced, and their planes are written
abbrev pub invariant-loop-number : goal.invariant-loop-number
invariant-loop-number l = record {
  games : StoodStarted (AdvancesLarge l.orders l.first) l.number l.fn.games l.games l.started;
  planes : PlanesSoFar IsLargeBoard l.first l.games l.each l.number l.fn.into l.into;
}
