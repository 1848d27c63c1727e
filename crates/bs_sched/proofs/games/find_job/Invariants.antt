use Rattle.bs_sched.specs.inner.GamesLayout.{lanes_in, numbers_in}
use Rattle.bs_sched.specs.inner.Taking.{AreNoneReadyBetween}
use Rattle.bs_sched.proofs.games.find_job.Given as goal

-- no lane so far has a ready job
abbrev pub invariant-loop-place : goal.invariant-loop-place
invariant-loop-place g l = AreNoneReadyBetween l.from l.place (numbers_in l.stays) (lanes_in l.games)
