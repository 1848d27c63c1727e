-- The core as its calls see it: all its games, and the list of their events.
use Rattle.std.specs.Prelude.{ℕ, List, [], ◌∷◌, ◌++◌, Option}
use Rattle.bs_board.specs.plans.Plan.{GameRow}
use Rattle.bs_counter.specs.Keys.{TallyId}
use Rattle.bs_fiber.specs.declared.job.JobName.{JobName}
use Rattle.bs_sched.specs.declared.event.Event.{Event}
use Rattle.bs_sched.specs.declared.event.Event.TheVariants as event
use Rattle.bs_sched.specs.Games.{GamesView, after, games_taken, opened}

pub record CoreView : Type 0 where
  pub games : GamesView
  -- its events, in their order
  pub journal : List Event

-- a core without events, over `blocks` blocks of `cap` bytes
abbrev pub opened_core : ℕ → ℕ → ℕ → List GameRow → CoreView
opened_core cap blocks workers rows = record { games = opened cap blocks workers rows; journal = [] }

-- the core after an event that is enabled
abbrev pub core_after : ℕ → CoreView → Event → CoreView
core_after cap core e = record { games = after cap core.games e; journal = core.journal ++ e ∷ [] }

-- the core after a job was taken, with these tallies, which are no part of an event
abbrev pub core_taken : ℕ → CoreView → ℕ → JobName → List (Option TallyId) → CoreView
core_taken cap core worker job tallies =
    record { games = games_taken cap core.games worker job tallies; journal = core.journal ++ event.Take worker job ∷ [] }

-- the core without its tallies, to which no event leads
abbrev pub without_tallies : CoreView → CoreView
without_tallies core = record core { games = record core.games { tallies = [] } }
