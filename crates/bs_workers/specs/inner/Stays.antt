-- What the acts of a run say of its stays, and what a player leaves of each.
use Rattle.std.specs.Prelude.{◌≡◌, ℕ, ◌<◌, Bool, true, false, nat_eq, List, ◌++◌, length, map, slice_index_or, slice_set, All, Option, Some, None}
use Rattle.std.specs.List.{filter_map, list_any}
use Rattle.bs_board.specs.declared.commands.command.Command.{Command}
use Rattle.bs_board.specs.plans.Plan.{GameRow}
use Rattle.bs_registry.specs.OpenStays.{OpenStayList, open_stays_of}
use Rattle.bs_registry.specs.Stays.{Capacity, Stay}
use Rattle.bs_sched.specs.declared.event.Event.{Event}
use Rattle.bs_sched.specs.declared.event.Event.TheVariants as event
use Rattle.bs_sched.specs.declared.step.Step.{Step}
use Rattle.bs_sched.specs.declared.step.Step.TheVariants as step
use Rattle.bs_sched.specs.Core.{CoreView}
use Rattle.bs_sched.specs.Games.{row_at}
use Rattle.bs_sched.specs.Isolation.{HandsFit}
use Rattle.bs_sched.specs.LoneStay.{LoneView}
use Rattle.bs_sched.specs.StaysApart.{PlayedAlone}
use Rattle.bs_sched.specs.StaysHeld.{lone_of}
use Rattle.bs_workers.specs.declared.act.Act.{Act}
use Rattle.bs_workers.specs.declared.act.Act.TheVariants as act
use Rattle.bs_workers.specs.declared.stays.Stays.{Stays}
use Rattle.bs_workers.specs.Acts.{command_in, is_acceptable, registry_after, rows_admitted}
use Rattle.bs_workers.specs.inner.Apart.{HavePlaces}

abbrev pub event_of : Act → Event
event_of (act.Hand stay command) = event.Hand stay command
event_of (act.Admit row) = event.Admit row
event_of (act.Leave stay) = event.Leave stay

-- the act without its command
abbrev pub step_in : Act → Step
step_in (act.Hand stay command) = step.Hand stay
step_in (act.Admit row) = step.Admit row
step_in (act.Leave stay) = step.Leave stay

-- the act closes that stay
abbrev pub is_leave : ℕ → Act → Bool
is_leave row (act.Hand stay command) = false
is_leave row (act.Admit new) = false
is_leave row (act.Leave stay) = nat_eq stay row

abbrev pub with_leave : Act → List Bool → List Bool
with_leave (act.Hand stay command) leaves = leaves
with_leave (act.Admit new) leaves = leaves
with_leave (act.Leave stay) leaves = slice_set leaves stay true

-- which stays leave
abbrev pub HaveLeft : List Act → List Bool → Type 0
HaveLeft acts leaves = (row : ℕ) → row < length leaves → slice_index_or leaves row false ≡ list_any (is_leave row) acts

-- the stays are those of the plan and of the acts
pub record AreListed (plan : List GameRow) (acts : List Act) (stays : Stays) : Type 0 where
  pub rows : stays.rows.items ≡ plan ++ rows_admitted acts
  pub places : HavePlaces acts stays.places.items
  pub leaves : HaveLeft acts stays.leaves.items
  pub many : length stays.leaves.items ≡ length stays.rows.items
  pub order : stays.order.items ≡ map step_in acts
  pub fits : All HandsFit (map event_of acts)

-- a stay that was played for these commands in a core of its own
pub record WasPlayed (cap workers : ℕ) (row : GameRow) (commands : List Command) (leaves : Bool) (stay : LoneView) : Type 0 where
  pub core : CoreView
  pub is : stay ≡ lone_of (record { core = core; leaves = leaves })
  pub played : PlayedAlone cap workers row commands leaves (record { core = core; leaves = leaves })

-- the stay of that row was played for the acts
abbrev pub IsPlayedStay : ℕ → ℕ → List Act → Stays → ℕ → LoneView → Type 0
IsPlayedStay cap workers acts stays row stay =
    HavePlaces acts stays.places.items
    → WasPlayed cap workers (row_at stays.rows.items row) (filter_map (command_in row) acts) (slice_index_or stays.leaves.items row false) stay

-- each stay that is there was played
abbrev pub ArePlayedStays : ℕ → ℕ → List Act → Stays → List (Option LoneView) → Type 0
ArePlayedStays cap workers acts stays slots =
    (row : ℕ) (stay : LoneView) → slice_index_or slots row None ≡ Some stay → IsPlayedStay cap workers acts stays row stay

-- the act is acceptable, and these stays are open after it
pub record IsFollowed (capacity : Capacity) (registry : List Stay) (a : Act) (open_stays : OpenStayList) : Type 0 where
  pub may : is_acceptable capacity registry a ≡ true
  pub after : open_stays ≡ open_stays_of (registry_after registry a)
