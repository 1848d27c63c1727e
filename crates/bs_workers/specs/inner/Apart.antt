-- What a thread does to the core of one row of a run.
use Rattle.std.specs.Prelude.{◌≡◌, ℕ, ◌<◌, false, List, [], ◌∷◌, ◌++◌, length, map, All, Option, Some, None, slice_index_or, slice_set}
use Rattle.std.specs.List.{filter_map}
use Rattle.bs_board.specs.plans.Plan.{GameRow}
use Rattle.bs_pool.specs.Ledger.{size}
use Rattle.bs_sched.specs.declared.event.Event.{Event}
use Rattle.bs_sched.specs.Assembly.{IsJob, IsQueuedFirst}
use Rattle.bs_sched.specs.Core.{CoreView}
use Rattle.bs_workers.specs.declared.act.Act.{Act}
use Rattle.bs_workers.specs.declared.act.Act.TheVariants as act
use Rattle.bs_workers.specs.Acts.{command_in}
use Rattle.bs_workers.specs.Run.{acts_of}

abbrev pub acts_at : List Act → List ℕ → List Act
acts_at acts = map (λ place. slice_index_or acts place (act.Leave 0))

-- the places of each row's commands, with one more
abbrev pub placed : ℕ → ℕ → List (List ℕ) → List (List ℕ)
placed row place rows = slice_set rows row (slice_index_or rows row [] ++ place ∷ [])

-- the place of a command is one of its row
abbrev pub placed_act : Act → ℕ → List (List ℕ) → List (List ℕ)
placed_act (act.Hand stay command) place rows = placed stay place rows
placed_act (act.Admit row) place rows = rows
placed_act (act.Leave stay) place rows = rows

-- the acts at the places of a row have its commands, in order
abbrev pub HavePlaces : List Act → List (List ℕ) → Type 0
HavePlaces acts places =
    (row : ℕ) → row < length places → filter_map (command_in row) (acts_at acts (slice_index_or places row [])) ≡ filter_map (command_in row) acts

-- the core of that row: first the acts' commands for the row were queued, then come jobs
abbrev pub IsPlayed : List Act → List (List ℕ) → ℕ → CoreView → Type 0
IsPlayed acts places row core = HavePlaces acts places → IsQueuedFirst (filter_map (command_in row) acts) core

-- the core's journal goes on by jobs
pub record GoesOn (old new : CoreView) : Type 0 where
  pub jobs : List Event
  pub journal : new.journal ≡ old.journal ++ jobs
  pub are_jobs : All IsJob jobs
  pub workers : new.games.workers ≡ old.games.workers
