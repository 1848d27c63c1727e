-- What private contracts add to specs/Taking.
use Rattle.std.specs.Prelude.{◌≡◌, ℕ, ◌≤◌, ◌<◌, true, false, List, length, slice_index_or}
use Rattle.bs_fiber.specs.declared.job.JobName.{JobName}
use Rattle.bs_sched.specs.declared.taking.Found.{Found}
use Rattle.bs_sched.specs.declared.taking.Found.TheVariants as found
use Rattle.bs_sched.specs.Lane.{Lane, is_ready}
use Rattle.bs_sched.specs.inner.Lane.{HasNoneReady}
use Rattle.bs_sched.specs.Machine.{lane_of, is_busy}

-- a job of some lane that can be taken
pub record IsReadyJob (lanes : List Lane) (job : JobName) : Type 0 where
  pub there : job.game < length lanes
  pub ready : is_ready (lane_of lanes job.game) job.kind job.part ≡ true

-- no job can be taken
abbrev pub AreNoneReady : List Lane → Type 0
AreNoneReady lanes = (game : ℕ) → game < length lanes → HasNoneReady (lane_of lanes game)

-- no job of an open stay can be taken
abbrev pub AreNoneOpenReady : List Lane → Type 0
AreNoneOpenReady lanes = (game : ℕ) → game < length lanes → (lane_of lanes game).is_open ≡ true → HasNoneReady (lane_of lanes game)

-- no job can be taken in the stays listed from place `from` to place `to`, `to` excluded
abbrev pub AreNoneReadyBetween : ℕ → ℕ → List ℕ → List Lane → Type 0
AreNoneReadyBetween from to rows lanes = (place : ℕ) → from ≤ place → place < to → HasNoneReady (lane_of lanes (slice_index_or rows place 0))

abbrev pub FindsJob : ℕ → List Lane → Found → Type 0
FindsJob worker lanes found.Busy = is_busy worker lanes ≡ true
FindsJob worker lanes found.Nothing = (is_busy worker lanes ≡ false) × AreNoneReady lanes
FindsJob worker lanes (found.Job job) = (is_busy worker lanes ≡ false) × IsReadyJob lanes job
