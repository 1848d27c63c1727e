-- What private contracts add to specs/Journal.
use Rattle.std.specs.Prelude.{◌≡◌, ℕ, ◌+◌, ◌≤◌, List, sum_by, Some, None}
use Rattle.bs_sched.specs.declared.cores.Core.TheInside.{Inside}
use Rattle.bs_sched.specs.declared.stage.Stage.{Stage}
use Rattle.bs_sched.specs.declared.stage.Stage.TheVariants as stage
use Rattle.bs_sched.specs.PartState.{PartState}
use Rattle.bs_sched.specs.PartState as part
use Rattle.bs_sched.specs.declared.event.Event.{Event}
use Rattle.bs_sched.specs.Core.{CoreView}
use Rattle.bs_sched.specs.Games.{GamesView}
use Rattle.bs_sched.specs.Lane.{Lane}
use Rattle.bs_sched.specs.Journal.{IsItsJournal}

-- The jobs that are out. Each of them is completed at most once.
abbrev pub out_of_part : PartState → ℕ
out_of_part part.Ready = 0
out_of_part (part.Out worker) = 1
out_of_part part.Done = 0

abbrev pub out_of_stage : Stage → List PartState → ℕ
out_of_stage stage.Idle parts = 0
out_of_stage (stage.Begin worker) parts = 1
out_of_stage stage.Parts parts = sum_by out_of_part parts
out_of_stage (stage.Join None) parts = 0
out_of_stage (stage.Join (Some worker)) parts = 1

abbrev pub out_of_lane : Lane → ℕ
out_of_lane x = out_of_stage x.stage x.parts

abbrev pub jobs_out : List Lane → ℕ
jobs_out = sum_by out_of_lane

-- The value of a core, from its games and its events.
abbrev pub core_of : GamesView → List Event → CoreView
core_of games journal = record { games = games; journal = journal }

abbrev pub core_in : {cap : ℕ} → Inside cap → CoreView
core_in c = core_of c.games c.journal.events

-- the journal has memory for the completion of each job that is out
pub record IsJournaled (cap : ℕ) {at : ℕ} (c : Inside at) : Type 0 where
  pub journal : IsItsJournal cap (core_in c)
  pub out : c.out ≡ jobs_out c.games.lanes
  pub room : c.journal.used + c.out ≤ c.journal.room
