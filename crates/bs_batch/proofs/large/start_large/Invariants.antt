use Rattle.bs_batch.specs.Starting.{StartsLarge}
use Rattle.bs_batch.proofs.StartedGames.{StoodStarted}
use Rattle.bs_batch.proofs.large.start_large.Given as goal

-- the games so far are started, or stay
abbrev pub invariant-loop-number : goal.invariant-loop-number
invariant-loop-number l = StoodStarted (StartsLarge l.first) l.number l.fn.games l.games l.started
