-- The core as a machine over events: its stays, which events are enabled, and the stays after each.
use Rattle.std.specs.Prelude.{ℕ, ◌-◌, Bool, true, false, ◌&&◌, not, if◌then◌else◌, List, [], ◌∷◌, ◌++◌, length, fold, count_by, sum_by, nat_eq, nat_lt, nat_le, slice_index_or, slice_set}
use Rattle.std.specs.List.{list_any}
use Rattle.bs_board.specs.declared.limits.TheConstants.{MOST_ROWS}
use Rattle.bs_board.specs.plans.Plan.{GameRow, row_of}
use Rattle.bs_board.specs.Texts.{is_same_text}
use Rattle.bs_registry.specs.Blocks.{blocks_of}
use Rattle.bs_registry.specs.declared.blocks.TheConstants.{MOST_STAYS}
use Rattle.bs_sched.specs.declared.event.Event.{Event}
use Rattle.bs_sched.specs.declared.event.Event.TheVariants as event
use Rattle.bs_sched.specs.Lane.{Lane, empty_lane, no_lane, occupies, is_ready, is_out, with_waiting, with_taken, with_put, may_leave, closed_lane}

-- what a core is opened with besides its plan: `blocks` blocks of `cap` bytes, and workers numbered
-- from 0 to `workers`
pub record Setting : Type 0 where
  pub cap : ℕ
  pub blocks : ℕ
  pub workers : ℕ

-- the lane of that row
abbrev pub lane_of : List Lane → ℕ → Lane
lane_of lanes game = slice_index_or lanes game no_lane

-- The row of an event. An admission has none yet.

abbrev pub is_admit : Event → Bool
is_admit (event.Hand game command) = false
is_admit (event.Take worker job) = false
is_admit (event.Put worker job) = false
is_admit (event.Admit row) = true
is_admit (event.Leave game) = false

abbrev pub row_in : Event → GameRow
row_in (event.Hand game command) = row_of [] 0
row_in (event.Take worker job) = row_of [] 0
row_in (event.Put worker job) = row_of [] 0
row_in (event.Admit row) = row
row_in (event.Leave game) = row_of [] 0

abbrev pub game_of : Event → ℕ
game_of (event.Hand game command) = game
game_of (event.Take worker job) = job.game
game_of (event.Put worker job) = job.game
game_of (event.Admit row) = 0
game_of (event.Leave game) = game

abbrev pub is_named : ℕ → Event → Bool
is_named game e = not (is_admit e) && nat_eq (game_of e) game

-- the worker has a Begin or a Join
abbrev pub is_busy : ℕ → List Lane → Bool
is_busy worker lanes = list_any (occupies worker) lanes

-- what the lane by itself allows
abbrev pub is_allowed : Lane → Event → Bool
is_allowed x (event.Hand game command) = x.is_open
is_allowed x (event.Take worker job) = is_ready x job.kind job.part
is_allowed x (event.Put worker job) = is_out worker x job.kind job.part
is_allowed x (event.Admit row) = false
is_allowed x (event.Leave game) = may_leave x

-- a job is taken by a worker of the core that is not busy
abbrev pub has_hands : ℕ → List Lane → Event → Bool
has_hands workers lanes (event.Hand game command) = true
has_hands workers lanes (event.Take worker job) = nat_le worker workers && not (is_busy worker lanes)
has_hands workers lanes (event.Put worker job) = true
has_hands workers lanes (event.Admit row) = true
has_hands workers lanes (event.Leave game) = true

-- Which stays may be admitted.

-- the blocks that are reserved for a stay while it is open
abbrev pub blocks_in : ℕ → Lane → ℕ
blocks_in cap x = if x.is_open then blocks_of cap x.row else 0

abbrev pub open_blocks : ℕ → List Lane → ℕ
open_blocks cap = sum_by (blocks_in cap)

abbrev pub has_name : GameRow → Lane → Bool
has_name row x = x.is_open && is_same_text row.game x.row.game

abbrev pub is_full : List Lane → Bool
is_full lanes = not (nat_lt (count_by (λ x. x.is_open) lanes) MOST_ROWS && nat_lt (length lanes) MOST_STAYS)

-- no open stay has the name, one more may be open, and its blocks are free besides those reserved
-- for the open stays
abbrev pub may_admit : Setting → List Lane → GameRow → Bool
may_admit setting lanes row =
    not (list_any (has_name row) lanes) && (not (is_full lanes) && nat_le (blocks_of setting.cap row) (setting.blocks - open_blocks setting.cap lanes))

-- an event that names an existing row is enabled
abbrev pub is_enabled_there : ℕ → List Lane → Event → Bool
is_enabled_there workers lanes e =
    nat_lt (game_of e) (length lanes) && (is_allowed (lane_of lanes (game_of e)) e && has_hands workers lanes e)

abbrev pub is_enabled : Setting → List Lane → Event → Bool
is_enabled setting lanes e = if is_admit e then may_admit setting lanes (row_in e) else is_enabled_there setting.workers lanes e

abbrev pub lane_after : Lane → Event → Lane
lane_after x (event.Hand game command) = with_waiting command x
lane_after x (event.Take worker job) = with_taken worker job.kind job.part x
lane_after x (event.Put worker job) = with_put job.kind job.part x
lane_after x (event.Admit row) = x
lane_after x (event.Leave game) = closed_lane x

-- a stay that is admitted has the next row; any other event changes its own lane and no other
abbrev pub lane_effect : List Lane → Event → List Lane
lane_effect lanes e =
    if is_admit e then lanes ++ empty_lane (row_in e) ∷ []
    else slice_set lanes (game_of e) (lane_after (lane_of lanes (game_of e)) e)

-- an event that is not enabled changes nothing
abbrev pub step : Setting → List Lane → Event → List Lane
step setting lanes e = if is_enabled setting lanes e then lane_effect lanes e else lanes

abbrev pub run_of : Setting → List Lane → List Event → List Lane
run_of setting = fold (step setting)
