-- The isolation law: whatever other stays are admitted and leave, whatever the number of workers,
-- and in whatever order jobs are taken and completed, each stay reaches exactly the state that it
-- reaches alone.
use Rattle.std.specs.Prelude.{◌≡◌, ℕ, ◌<◌, ◌≤◌, Bool, true, false, ◌&&◌, if◌then◌else◌, List, [], ◌∷◌, ◌++◌, length, map, All}
use Rattle.bs_board.specs.declared.boards.board.Board.{Board}
use Rattle.bs_board.specs.declared.commands.command.Command.{Command}
use Rattle.bs_board.specs.plans.Plan.{GameRow, IsFitPlan, is_fit_row}
use Rattle.bs_game.specs.Answer.{Fits}
use Rattle.bs_game.specs.Game.{game_charge, last_board}
use Rattle.bs_fiber.specs.declared.job.JobName.{JobName}
use Rattle.std.specs.Prelude.{Option}
use Rattle.bs_sched.specs.declared.event.Event.{Event}
use Rattle.bs_sched.specs.declared.event.Event.TheVariants as event
use Rattle.bs_sched.specs.Courses.{IsRight}
use Rattle.bs_sched.specs.Handed.{commands_of}
use Rattle.bs_sched.specs.Lane.{Lane, empty_lane, is_quiet, kept_of}
use Rattle.bs_sched.specs.Machine.{Setting, lane_of, is_admit, row_in, is_named, is_enabled, step, run_of, open_blocks}

-- The core of all stays, and the core of one stay alone.

-- the lanes of a core that was opened over these rows
abbrev pub opened_lanes : List GameRow → List Lane
opened_lanes = map empty_lane

-- the job in a core of its stay alone
abbrev pub alone_job : JobName → JobName
alone_job job = record job { game = 0 }

-- the event there: its stay is row 0
abbrev pub alone_event : Event → Event
alone_event (event.Hand game command) = event.Hand 0 command
alone_event (event.Take worker job) = event.Take worker (alone_job job)
alone_event (event.Put worker job) = event.Put worker (alone_job job)
alone_event (event.Admit row) = event.Admit row
alone_event (event.Leave game) = event.Leave 0

-- the event names that stay, and is enabled; an `Admit` names no existing stay
abbrev pub is_accepted : Setting → ℕ → List Lane → Event → Bool
is_accepted setting game lanes e = is_named game e && is_enabled setting lanes e

-- of these events, those that name the stay and are enabled in their place, as they are in the core
-- of that stay alone
abbrev pub accepted : Setting → ℕ → List Lane → List Event → List Event
accepted setting game lanes [] = []
accepted setting game lanes (e ∷ events) =
    if is_accepted setting game lanes e
    then alone_event e ∷ accepted setting game (step setting lanes e) events
    else accepted setting game (step setting lanes e) events

-- the rows of the stays that these events open, in their order
abbrev pub admitted : Setting → List Lane → List Event → List GameRow
admitted setting lanes [] = []
admitted setting lanes (e ∷ events) =
    if is_admit e && is_enabled setting lanes e
    then row_in e ∷ admitted setting (step setting lanes e) events
    else admitted setting (step setting lanes e) events

-- each event is enabled in its place
abbrev pub are_enabled : Setting → List Lane → List Event → Bool
are_enabled setting lanes [] = true
are_enabled setting lanes (e ∷ events) = is_enabled setting lanes e && are_enabled setting (step setting lanes e) events

-- the core of all stays after all events
abbrev pub shared_run : Setting → List GameRow → List Event → List Lane
shared_run setting rows events = run_of setting (opened_lanes rows) events

-- the row of a stay, from the plan or admitted by the events
abbrev pub row_made : Setting → List GameRow → List Event → ℕ → GameRow
row_made setting rows events game = (lane_of (shared_run setting rows events) game).row

-- a newly opened core of that stay's row alone
abbrev pub lone_lanes : Setting → List GameRow → List Event → ℕ → List Lane
lone_lanes setting rows events game = opened_lanes (row_made setting rows events game ∷ [])

-- the stay's accepted events
abbrev pub own_events : Setting → List GameRow → List Event → ℕ → List Event
own_events setting rows events game = accepted setting game (opened_lanes rows) events

-- the core of that stay alone after them
abbrev pub lone_run : Setting → List GameRow → List Event → ℕ → List Lane
lone_run setting rows events game = run_of setting (lone_lanes setting rows events game) (own_events setting rows events game)

-- The claims about each stay.

-- the last board and the charge, which are also defined for a stay that has left
abbrev pub final_board : Lane → Option Board
final_board x = last_board x.game

abbrev pub final_charge : Lane → ℕ
final_charge x = game_charge x.game

-- The stay's accepted events, run in a core of that stay alone with as many blocks and workers, are
-- all enabled in their place. They end in the very same lane: the same row, open or not, the same
-- replies, the same commands taken and waiting, the same boards, and the same stage, with each job
-- out at the same worker. So the kept records have the same bytes, and the final board and charge
-- are the same.
pub record RunsAlone (setting : Setting) (rows : List GameRow) (events : List Event) (game : ℕ) : Type 0 where
  pub enabled : are_enabled setting (lone_lanes setting rows events game) (own_events setting rows events game) ≡ true
  pub lane : lane_of (lone_run setting rows events game) 0 ≡ lane_of (shared_run setting rows events) game
  pub records : kept_of (lane_of (lone_run setting rows events game) 0) ≡ kept_of (lane_of (shared_run setting rows events) game)
  pub board : final_board (lane_of (lone_run setting rows events game) 0) ≡ final_board (lane_of (shared_run setting rows events) game)
  pub charge : final_charge (lane_of (lone_run setting rows events game) 0) ≡ final_charge (lane_of (shared_run setting rows events) game)

-- An event that does not name a stay leaves its lane unchanged, enabled or not; so does the
-- admission of another stay.
abbrev pub OthersLeave : Setting → List Lane → ℕ → Type 0
OthersLeave setting lanes game = (e : Event) → is_named game e ≡ false → lane_of (step setting lanes e) game ≡ lane_of lanes game

-- the commands that these events queue, in order
abbrev pub commands_in : List Event → List Command
commands_in [] = []
commands_in (event.Hand game command ∷ events) = command ∷ commands_in events
commands_in (event.Take worker job ∷ events) = commands_in events
commands_in (event.Put worker job ∷ events) = commands_in events
commands_in (event.Admit row ∷ events) = commands_in events
commands_in (event.Leave game ∷ events) = commands_in events

-- a command that is queued and a row that is admitted are within the limits
abbrev pub HandsFit : Event → Type 0
HandsFit (event.Hand game command) = Fits command
HandsFit (event.Take worker job) = Unit {0}
HandsFit (event.Put worker job) = Unit {0}
HandsFit (event.Admit row) = is_fit_row row ≡ true
HandsFit (event.Leave game) = Unit {0}

-- a stay that has left is idle; its replies and boards are on the course of its commands
pub record IsWell (x : Lane) : Type 0 where
  pub right : IsRight x
  pub closed : x.is_open ≡ false → is_quiet x ≡ true

-- Its commands are those that were queued for it while it was open, in order. Its replies and
-- boards are those of the course of the answered ones, from no game on.
pub record KeepsCourse (setting : Setting) (rows : List GameRow) (events : List Event) (game : ℕ) : Type 0 where
  pub commands : commands_of (lane_of (shared_run setting rows events) game) ≡ commands_in (own_events setting rows events game)
  pub well : IsWell (lane_of (shared_run setting rows events) game)

-- The law.

pub record IsIsolated (setting : Setting) (rows : List GameRow) (events : List Event) (game : ℕ) : Type 0 where
  pub alone : RunsAlone setting rows events game
  pub others : OthersLeave setting (shared_run setting rows events) game
  pub course : KeepsCourse setting rows events game

-- the rows are those of the plan, then the admitted ones; the blocks reserved for the open stays
-- exist
pub record AreHosted (setting : Setting) (rows : List GameRow) (events : List Event) : Type 0 where
  pub made : map (λ x. x.row) (shared_run setting rows events) ≡ rows ++ admitted setting (opened_lanes rows) events
  pub room : open_blocks setting.cap (shared_run setting rows events) ≤ setting.blocks
  pub stays : (game : ℕ) → game < length (shared_run setting rows events) → IsIsolated setting rows events game

-- For every plan within its limits whose reservations fit, every number of workers, every list of
-- events whose commands and rows are within the limits, and every stay of the plan or admitted by
-- the events.
abbrev pub IsolationLaw : Type 0
IsolationLaw =
    (setting : Setting) (rows : List GameRow) (events : List Event) → IsFitPlan rows → open_blocks setting.cap (opened_lanes rows) ≤ setting.blocks
    → All HandsFit events → AreHosted setting rows events
