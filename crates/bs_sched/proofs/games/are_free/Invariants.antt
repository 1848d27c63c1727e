use Rattle.std.proofs.Common.{◌≡◌, ℕ, ◌<◌, true, slice_index_or}
use Rattle.std.specs.Prelude.{not}
use Rattle.bs_sched.specs.inner.GamesLayout.{lanes_in, numbers_in}
use Rattle.bs_sched.specs.Lane.{occupies}
use Rattle.bs_sched.specs.Machine.{lane_of}
use Rattle.bs_sched.proofs.games.are_free.Given as goal

-- no stay so far occupies the worker
abbrev pub invariant-loop-place : goal.invariant-loop-place
invariant-loop-place g l =
    (place : ℕ) → place < l.place → not (occupies l.worker (lane_of (lanes_in l.games) (slice_index_or (numbers_in l.stays) place 0))) ≡ true
