use Rattle.std.proofs.Common.{◌≡◌, ℕ, ◌<◌, true, slice_index_or}
use Rattle.bs_sched.specs.inner.GamesLayout.{lanes_in, numbers_in}
use Rattle.bs_sched.specs.Lane.{is_quiet}
use Rattle.bs_sched.specs.Machine.{lane_of}
use Rattle.bs_sched.proofs.games.are_quiet.Given as goal

-- each stay so far is idle
abbrev pub invariant-loop-place : goal.invariant-loop-place
invariant-loop-place g l = (place : ℕ) → place < l.place → is_quiet (lane_of (lanes_in l.games) (slice_index_or (numbers_in l.stays) place 0)) ≡ true
