-- Which stays are open. Among events only admissions and leaves change that, and no job does.
use Rattle.std.specs.Prelude.{◌≡◌, ◌≢◌, ℕ, ◌<◌, ◌≤◌, true, ◌&&◌, if◌then◌else◌, List, [], ◌∷◌, ◌++◌, codes, length, map, fold, count_by, nat_eq, nat_le, pos, All}
use Rattle.bs_board.specs.declared.boards.board.Board.{Board}
use Rattle.bs_board.specs.declared.boards.board.Mode.TheVariants.{Solo}
use Rattle.bs_board.specs.declared.limits.TheConstants.{MOST_ROWS}
use Rattle.bs_board.specs.declared.commands.command.Command.{Command}
use Rattle.bs_board.specs.declared.commands.command.Command.TheVariants as command
use Rattle.bs_board.specs.commands.Orders.{orders_of}
use Rattle.bs_board.specs.commands.Setup.{Setup, setup_of}
use Rattle.bs_board.specs.plans.Plan.{GameRow, IsFitPlan}
use Rattle.bs_fiber.specs.declared.job.JobKind.{JobKind}
use Rattle.bs_fiber.specs.declared.job.JobKind.TheVariants as kind
use Rattle.bs_fiber.specs.declared.job.JobName.{JobName}
use Rattle.bs_game.specs.Alone.{alone}
use Rattle.bs_registry.specs.Blocks.{blocks_of}
use Rattle.bs_sched.specs.declared.event.Event.{Event}
use Rattle.bs_sched.specs.declared.event.Event.TheVariants as event
use Rattle.bs_sched.specs.Handed.{commands_of}
use Rattle.bs_sched.specs.Isolation.{HandsFit, are_enabled, opened_lanes, own_events, row_made, commands_in, shared_run}
use Rattle.bs_sched.specs.Lane.{Lane, is_quiet, kept_of, records_of}
use Rattle.bs_sched.specs.Machine.{Setting, lane_of, is_enabled, step, run_of}
use Rattle.bs_registry.specs.Stays.{Capacity, Stay, is_in, may_admit_in, with_admitted, with_closed}
use Rattle.bs_registry.specs.declared.blocks.TheConstants.{MOST_STAYS}

abbrev pub stay_of : Lane → Stay
stay_of x = record { row = x.row; is_open = x.is_open }

abbrev pub registry_of : List Lane → List Stay
registry_of = map stay_of

abbrev pub capacity_of : Setting → Capacity
capacity_of setting = record { cap = setting.cap; blocks = setting.blocks }

-- what an event that is enabled makes of the registry
abbrev pub registry_after : List Stay → Event → List Stay
registry_after registry (event.Hand game command) = registry
registry_after registry (event.Take worker job) = registry
registry_after registry (event.Put worker job) = registry
registry_after registry (event.Admit row) = with_admitted row registry
registry_after registry (event.Leave game) = with_closed game registry

-- The registry alone decides whether a row may be admitted and whether a command may be queued; for
-- a leave the stay must also be idle. A job does not change the registry. After enabled events the
-- registry is the one after their admissions and leaves.
pub record DecidedByRegistry (setting : Setting) (lanes : List Lane) (events : List Event) : Type 0 where
  pub admits : (row : GameRow) → is_enabled setting lanes (event.Admit row) ≡ may_admit_in (capacity_of setting) (registry_of lanes) row
  pub hands : (game : ℕ) (command : Command) → is_enabled setting lanes (event.Hand game command) ≡ is_in (registry_of lanes) game
  pub leaves : (game : ℕ) → is_enabled setting lanes (event.Leave game) ≡ (is_in (registry_of lanes) game && is_quiet (lane_of lanes game))
  pub takes : (worker : ℕ) (job : JobName) → registry_of (step setting lanes (event.Take worker job)) ≡ registry_of lanes
  pub puts : (worker : ℕ) (job : JobName) → registry_of (step setting lanes (event.Put worker job)) ≡ registry_of lanes
  pub registry : are_enabled setting lanes events ≡ true → registry_of (run_of setting lanes events) ≡ fold registry_after (registry_of lanes) events

abbrev pub RegistryLaw : Type 0
RegistryLaw = (setting : Setting) (lanes : List Lane) (events : List Event) → DecidedByRegistry setting lanes events

-- After events that were all enabled, as those of a journal are: the rows are those of the plan,
-- then the admitted ones, and the commands of a stay are those that name it.

abbrev pub rows_in : List Event → List GameRow
rows_in [] = []
rows_in (event.Hand game command ∷ events) = rows_in events
rows_in (event.Take worker job ∷ events) = rows_in events
rows_in (event.Put worker job ∷ events) = rows_in events
rows_in (event.Admit row ∷ events) = row ∷ rows_in events
rows_in (event.Leave game ∷ events) = rows_in events

abbrev pub commands_to : ℕ → List Event → List Command
commands_to game [] = []
commands_to game (event.Hand row command ∷ events) = if nat_eq row game then command ∷ commands_to game events else commands_to game events
commands_to game (event.Take worker job ∷ events) = commands_to game events
commands_to game (event.Put worker job ∷ events) = commands_to game events
commands_to game (event.Admit row ∷ events) = commands_to game events
commands_to game (event.Leave left ∷ events) = commands_to game events

pub record DeterminesStays (setting : Setting) (plan : List GameRow) (events : List Event) : Type 0 where
  pub rows : map (λ x. x.row) (shared_run setting plan events) ≡ plan ++ rows_in events
  pub commands : (game : ℕ) → game < length (shared_run setting plan events)
      → commands_of (lane_of (shared_run setting plan events) game) ≡ commands_to game events

abbrev pub JournalLaw : Type 0
JournalLaw = (setting : Setting) (plan : List GameRow) (events : List Event) → are_enabled setting (opened_lanes plan) events ≡ true → DeterminesStays setting plan events

-- An idle stay has answered all its commands as a game by itself does. So has a stay that has left:
-- it keeps its last board and its charge, and no record.
pub record IsServedAlone (row : GameRow) (commands : List Command) (x : Lane) : Type 0 where
  pub replies : x.replies ≡ (alone row commands).replies
  pub game : x.game ≡ (alone row commands).game
  pub records : kept_of x ≡ (if x.is_open then records_of (alone row commands).game else [])

abbrev pub ServedLaw : Type 0
ServedLaw =
    (setting : Setting) (rows : List GameRow) (events : List Event) (game : ℕ) → IsFitPlan rows → All HandsFit events
    → game < length (shared_run setting rows events) → is_quiet (lane_of (shared_run setting rows events) game) ≡ true
    → IsServedAlone (row_made setting rows events game) (commands_in (own_events setting rows events game)) (lane_of (shared_run setting rows events) game)

-- Stays can be admitted and leave: one is admitted into an empty setting, plays a turn by all jobs
-- of a move, is answered as alone, and leaves; then one of the same name is admitted.

abbrev pub only_job : JobKind → JobName
only_job kind = record { game = 0; kind = kind; part = 0 }

-- a game of one snake, and a turn of it
abbrev pub solo_setup : Setup
solo_setup = setup_of Solo 5 5 ((codes "s", record { x = pos 1; y = pos 1 }) ∷ []) [] 0 0

abbrev pub solo_commands : List Command
solo_commands = command.New solo_setup ∷ command.Move (orders_of [] []) ∷ []

-- a job is taken and completed, then these events
abbrev pub job_then : ℕ → JobKind → List Event → List Event
job_then worker kind events = event.Take worker (only_job kind) ∷ event.Put worker (only_job kind) ∷ events

abbrev pub coming_and_going : ℕ → GameRow → List Event
coming_and_going worker row =
    event.Admit row ∷ event.Hand 0 (command.New solo_setup) ∷ event.Hand 0 (command.Move (orders_of [] []))
    ∷ job_then worker kind.Begin (job_then worker kind.Begin (job_then worker kind.Part (job_then worker kind.Join (event.Leave 0 ∷ event.Admit row ∷ []))))

pub record ComesAndGoes (setting : Setting) (worker : ℕ) (row : GameRow) : Type 0 where
  pub enabled : are_enabled setting [] (coming_and_going worker row) ≡ true
  pub replies : (lane_of (run_of setting [] (coming_and_going worker row)) 0).replies ≡ (alone row solo_commands).replies
  pub boards : (lane_of (run_of setting [] (coming_and_going worker row)) 0).game ≡ (alone row solo_commands).game
  -- both commands were accepted
  pub turns : map (λ (board : Board). board.turn) (lane_of (run_of setting [] (coming_and_going worker row)) 0).game ≡ 0 ∷ 1 ∷ []
  pub stays : length (run_of setting [] (coming_and_going worker row)) ≡ 2

-- two records of that game have 64 bytes
abbrev pub ProgressExample : Type 0
ProgressExample =
    (setting : Setting) (worker : ℕ) (row : GameRow) → nat_le worker setting.workers ≡ true → nat_le (blocks_of setting.cap row) setting.blocks ≡ true
    → nat_le 64 row.quota ≡ true → ComesAndGoes setting worker row

-- No two open stays have one name, at most as many are open as a plan may have games, and the
-- number of rows has a limit.

pub record AreKnownApart (lanes : List Lane) : Type 0 where
  pub names : (game other : ℕ) → game < length lanes → other < length lanes → game ≢ other → (lane_of lanes game).is_open ≡ true
      → (lane_of lanes other).is_open ≡ true → (lane_of lanes game).row.game ≢ (lane_of lanes other).row.game
  pub few : count_by (λ x. x.is_open) lanes ≤ MOST_ROWS
  pub made : length lanes ≤ MOST_STAYS

abbrev pub NamesLaw : Type 0
NamesLaw = (setting : Setting) (plan : List GameRow) (events : List Event) → IsFitPlan plan → AreKnownApart (shared_run setting plan events)
