use Rattle.bs_batch.specs.Advancing.{AdvancesSmall}
use Rattle.bs_batch.specs.Showing.{IsSmallBoard}
use Rattle.bs_batch.proofs.Advanced.{PlanesSoFar}
use Rattle.bs_batch.proofs.StartedGames.{StoodStarted}
use Rattle.bs_batch.proofs.small.advance_small.Given as goal

-- the games so far have advanced, and their planes are written
abbrev pub invariant-loop-number : goal.invariant-loop-number
invariant-loop-number l = record {
  games : StoodStarted (AdvancesSmall l.orders l.first) l.number l.fn.games l.games l.started;
  planes : PlanesSoFar IsSmallBoard l.first l.games l.each l.number l.fn.into l.into;
}
