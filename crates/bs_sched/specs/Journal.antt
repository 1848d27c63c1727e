-- The core is its journal: what the list of its events says of its games.
use Rattle.std.specs.Prelude.{◌≡◌, ℕ, false, true, All, []}
use Rattle.bs_sched.specs.Registry.{AreKnownApart, DeterminesStays}
use Rattle.bs_sched.specs.Core.{CoreView}
use Rattle.bs_sched.specs.Games.{setting_of, opened}
use Rattle.bs_sched.specs.Isolation.{AreHosted, HandsFit, are_enabled, opened_lanes, shared_run}
use Rattle.bs_sched.specs.Machine.{Setting}
use Rattle.bs_sched.specs.Memory.{games_run}
use Rattle.bs_sched.specs.SharedMemory.{IsHosted, SharesMemory}

-- what the core was opened with
abbrev pub setting_in : ℕ → CoreView → Setting
setting_in cap core = setting_of cap core.games

-- Every event of the journal was enabled in its place, and the events lead to these games from a
-- core that was newly opened over the same plan, blocks and workers. Two things belong to no event:
-- the call of `fail`, and the tallies.
pub record IsItsJournal (cap : ℕ) (core : CoreView) : Type 0 where
  pub hosted : IsHosted (setting_in cap core) core.games.rows
  pub fits : All HandsFit core.journal
  pub enabled : are_enabled (setting_in cap core) (opened_lanes core.games.rows) core.journal ≡ true
  pub games : games_run (setting_in cap core) (opened cap (setting_in cap core).blocks core.games.workers core.games.rows) core.journal ≡ record core.games { failed = false; tallies = [] }

-- So the isolation law holds of its lanes: of each stay, and of the memory that all of them share.
pub record KeepsApart (cap : ℕ) (core : CoreView) : Type 0 where
  pub lanes : shared_run (setting_in cap core) core.games.rows core.journal ≡ core.games.lanes
  pub stays : AreHosted (setting_in cap core) core.games.rows core.journal
  pub memory : SharesMemory (setting_in cap core) core.games.rows core.journal
  -- the rows are those of the plan and of the admissions; the commands of a stay are those that
  -- name it
  pub told : DeterminesStays (setting_in cap core) core.games.rows core.journal
  pub names : AreKnownApart core.games.lanes
