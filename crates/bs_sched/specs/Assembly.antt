-- Games that ran apart, each in a core of its own, put together: the core of all games that the
-- same events lead to.
use Rattle.std.specs.Prelude.{⊤, ◌≡◌, ℕ, suc, ◌+◌, ◌*◌, ◌<◌, true, false, if◌then◌else◌, nat_eq, List, [], ◌∷◌, ◌++◌, length, map, replicate, slice_index_or, All, Option, Some, None}
use Rattle.std.specs.List.{filter_map}
use Rattle.bs_board.specs.declared.commands.command.Command.{Command}
use Rattle.bs_board.specs.plans.Plan.{GameRow}
use Rattle.bs_pool.specs.declared.reservation.Reservation.{Reservation}
use Rattle.bs_pool.specs.Ledger.{ledger_of, size}
use Rattle.bs_heap.specs.Packing.{Packing}
use Rattle.bs_heap.specs.Renaming.{renamed_packing}
use Rattle.bs_fiber.specs.declared.job.JobName.{JobName}
use Rattle.bs_sched.specs.declared.event.Event.{Event}
use Rattle.bs_sched.specs.declared.event.Event.TheVariants as event
use Rattle.bs_sched.specs.Core.{CoreView, opened_core}
use Rattle.bs_sched.specs.Games.{row_at}
use Rattle.bs_sched.specs.Journal.{IsItsJournal}
use Rattle.bs_sched.specs.Lane.{Lane, is_idle}
use Rattle.bs_sched.specs.Machine.{Setting, lane_of}
use Rattle.bs_registry.specs.Blocks.{blocks_of}
use Rattle.bs_sched.specs.PlanBlocks.{reservations_of}
use Rattle.bs_sched.specs.SharedMemory.{IsHosted}
use Rattle.bs_sched.specs.Storage.{packing_of, frames_of}
use Rattle.bs_pool.specs.Woven.{woven, place_in}

-- The commands of a file.

-- a command that is queued for the game of that row
pub record Hand : Type 0 where
  pub row : ℕ
  pub command : Command

abbrev pub hand_event : Hand → Event
hand_event hand = event.Hand hand.row hand.command

abbrev pub command_for : ℕ → Hand → Option Command
command_for row hand = if nat_eq hand.row row then Some hand.command else None

-- the commands for the game of that row, in order
abbrev pub commands_for : ℕ → List Hand → List Command
commands_for row = filter_map (command_for row)

-- The journal.

-- the job of a game that has that row
abbrev pub job_at : ℕ → JobName → JobName
job_at row job = record job { game = row }

abbrev pub job_event : ℕ → Event → Option Event
job_event row (event.Hand game command) = None
job_event row (event.Take worker job) = Some (event.Take worker (job_at row job))
job_event row (event.Put worker job) = Some (event.Put worker (job_at row job))
job_event row (event.Admit new) = None
job_event row (event.Leave game) = None

-- the jobs of a journal, as those of the game of that row
abbrev pub jobs_at : ℕ → List Event → List Event
jobs_at row = filter_map (job_event row)

-- the jobs of each core, one core after the other; the first is that of this row
abbrev pub jobs_from : ℕ → List CoreView → List Event
jobs_from row [] = []
jobs_from row (core ∷ cores) = jobs_at row core.journal ++ jobs_from (suc row) cores

-- all commands in the order of the file, then the jobs of each core
abbrev pub assembled_journal : List Hand → List CoreView → List Event
assembled_journal hands cores = map hand_event hands ++ jobs_from 0 cores

-- The blocks. Those of each core have, one core after the other, the numbers that are still free,
-- in order.

-- the tag in the whole of a tag in the core of that row
abbrev pub tag_at : ℕ → ℕ → ℕ
tag_at row tag = tag + 2 * row

-- the owners once the blocks of a core have their numbers
abbrev pub owners_with : ℕ → List (Option ℕ) → CoreView → List (Option ℕ)
owners_with row owners core = woven (tag_at row) owners core.games.storage.pool.owners

abbrev pub owners_from : ℕ → List (Option ℕ) → List CoreView → List (Option ℕ)
owners_from row owners [] = owners
owners_from row owners (core ∷ cores) = owners_from (suc row) (owners_with row owners core) cores

-- the reservations of each core, one core after the other
abbrev pub reservation_at : ℕ → Reservation → Reservation
reservation_at row r = record { tag = tag_at row r.tag; blocks = r.blocks }

abbrev pub reservations_laid : ℕ → List CoreView → List Reservation
reservations_laid row [] = []
reservations_laid row (core ∷ cores) = map (reservation_at row) core.games.storage.pool.reservations ++ reservations_laid (suc row) cores

abbrev pub packings_from : ℕ → List (Option ℕ) → List CoreView → List Packing
packings_from row owners [] = []
packings_from row owners (core ∷ cores) =
    renamed_packing (place_in owners) (packing_of core.games.storage 0) ∷ packings_from (suc row) (owners_with row owners core) cores

-- The whole.

abbrev pub own_lane : CoreView → Lane
own_lane core = lane_of core.games.lanes 0

-- no frame block is out, so none gets another number
abbrev pub own_frames : CoreView → List (Option ℕ)
own_frames core = frames_of core.games.storage 0

-- the core of all games, over `blocks` blocks of `cap` bytes
abbrev pub assembled : ℕ → ℕ → ℕ → List GameRow → List Hand → List CoreView → CoreView
assembled cap blocks workers plan hands cores =
    record {
      games = record {
        rows = plan;
        workers = workers;
        failed = false;
        lanes = map own_lane cores;
        storage = record {
          packings = packings_from 0 (replicate blocks None) cores;
          frames = map own_frames cores;
          pool = ledger_of (owners_from 0 (replicate blocks None) cores) (reservations_of cap plan);
        };
        tallies = [];
      };
      journal = assembled_journal hands cores;
    }

-- The core of one game: it has as many workers and the blocks that the game reserves. First all its
-- commands were queued, and no job is in progress.
pub record RanAlone (cap workers : ℕ) (row : GameRow) (commands : List Command) (core : CoreView) : Type 0 where
  pub journaled : IsItsJournal cap core
  pub plan : core.games.rows ≡ row ∷ []
  pub workers_same : core.games.workers ≡ workers
  pub blocks : size core.games.storage.pool ≡ blocks_of cap row
  pub hands_first : core.journal ≡ map (event.Hand 0) commands ++ jobs_at 0 core.journal
  pub idle : is_idle (own_lane core).stage ≡ true

-- The cores as threads leave them.

-- the event is a job's
abbrev pub IsJob : Event → Type 0
IsJob (event.Hand game command) = ⊥
IsJob (event.Take worker job) = ⊤
IsJob (event.Put worker job) = ⊤
IsJob (event.Admit new) = ⊥
IsJob (event.Leave game) = ⊥

-- first these commands were queued for the core's only game, then come jobs
pub record IsQueuedFirst (commands : List Command) (core : CoreView) : Type 0 where
  pub jobs : List Event
  pub journal_is : core.journal ≡ map (event.Hand 0) commands ++ jobs
  pub are_jobs : All IsJob jobs

-- a core without events, if there is none at that row
abbrev pub core_at : List CoreView → ℕ → CoreView
core_at cores row = slice_index_or cores row (opened_core 0 0 0 [])

-- one core for each row of the plan
pub record RanApart (cap workers : ℕ) (plan : List GameRow) (hands : List Hand) (cores : List CoreView) : Type 0 where
  pub many : length cores ≡ length plan
  pub each : (row : ℕ) → row < length plan → RanAlone cap workers (row_at plan row) (commands_for row hands) (core_at cores row)

abbrev pub setting_with : ℕ → ℕ → ℕ → Setting
setting_with cap blocks workers = record { cap = cap; blocks = blocks; workers = workers }

-- The whole has as many blocks, and it is its journal: each event was enabled in its place, and they
-- lead to these lanes, packings, frame blocks and owners. The reservations of the plan are those of
-- the cores.
pub record IsAssembled (cap blocks workers : ℕ) (plan : List GameRow) (hands : List Hand) (cores : List CoreView) : Type 0 where
  pub blocks_same : size (assembled cap blocks workers plan hands cores).games.storage.pool ≡ blocks
  pub journaled : IsItsJournal cap (assembled cap blocks workers plan hands cores)
  pub reserved : reservations_laid 0 cores ≡ reservations_of cap plan

-- For every plan that is hosted, and all commands for its rows.
abbrev pub AssemblyLaw : Type 0
AssemblyLaw =
    (cap blocks workers : ℕ) (plan : List GameRow) (hands : List Hand) (cores : List CoreView) → IsHosted (setting_with cap blocks workers) plan
    → All (λ hand. hand.row < length plan) hands → RanApart cap workers plan hands cores → IsAssembled cap blocks workers plan hands cores

-- Newly opened cores, one for each row of the plan.

abbrev pub opened_apart : ℕ → ℕ → List GameRow → List CoreView
opened_apart cap workers = map (λ row. opened_core cap (blocks_of cap row) workers (row ∷ []))

-- Put together before any command, they are the newly opened core of the plan.
pub record OpensApart (cap blocks workers : ℕ) (plan : List GameRow) : Type 0 where
  pub apart : RanApart cap workers plan [] (opened_apart cap workers plan)
  pub whole : assembled cap blocks workers plan [] (opened_apart cap workers plan) ≡ opened_core cap blocks workers plan

abbrev pub SharingLaw : Type 0
SharingLaw = (cap blocks workers : ℕ) (plan : List GameRow) → IsHosted (setting_with cap blocks workers) plan → OpensApart cap blocks workers plan
