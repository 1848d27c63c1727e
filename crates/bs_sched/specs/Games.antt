-- All stays of a core, with the blocks in which their records lie.
use Rattle.std.specs.Prelude.{◌≡◌, ◌≢◌, ℕ, Bool, false, if◌then◌else◌, List, length, map, replicate, [], ◌∷◌, ◌++◌, slice_index_or, Option, None}
use Rattle.bs_counter.specs.Keys.{TallyId}
use Rattle.bs_board.specs.plans.Plan.{GameRow, row_of}
use Rattle.bs_pool.specs.Ledger.{Ledger, ledger_of, size, without_reservation}
use Rattle.bs_heap.specs.Packing.{no_packing}
use Rattle.bs_game.specs.declared.reply.Effect.{Effect}
use Rattle.bs_game.specs.declared.reply.Effect.TheVariants as effect
use Rattle.bs_game.specs.View.{answer_of}
use Rattle.bs_fiber.specs.declared.job.JobKind.{JobKind}
use Rattle.bs_fiber.specs.declared.job.JobKind.TheVariants as kind
use Rattle.bs_fiber.specs.declared.job.JobName.{JobName}
use Rattle.bs_sched.specs.declared.event.Event.{Event}
use Rattle.bs_sched.specs.declared.event.Event.TheVariants as event
use Rattle.bs_sched.specs.Lane.{Lane, empty_lane, lane_view, lane_command, forked, goes_on}
use Rattle.bs_sched.specs.Machine.{Setting, lane_of, lane_effect}
use Rattle.bs_sched.specs.PlanBlocks.{reservations_of, with_row}
use Rattle.bs_sched.specs.Storage.{Storage, frame_tag, record_tag, stored, with_parts, with_frame, without_frames}

pub record GamesView : Type 0 where
  -- the rows of the plan, the first stays
  pub rows : List GameRow
  -- workers are numbered from 0 to this; the last is the caller's
  pub workers : ℕ
  pub failed : Bool
  pub lanes : List Lane
  pub storage : Storage
  -- for each row the tally of the stay's newest taken command, if it has one; without the Nones at
  -- the end of the list
  pub tallies : List (Option TallyId)

abbrev pub tally_of : List (Option TallyId) → ℕ → Option TallyId
tally_of tallies game = slice_index_or tallies game None

abbrev pub row_at : List GameRow → ℕ → GameRow
row_at rows game = slice_index_or rows game (row_of [] 0)

-- games without commands, over `blocks` blocks of `cap` bytes
abbrev pub opened : ℕ → ℕ → ℕ → List GameRow → GamesView
opened cap blocks workers rows =
    record {
      rows = rows;
      workers = workers;
      failed = false;
      lanes = map (λ row. empty_lane row) rows;
      storage = record { packings = map (λ _. no_packing) rows; frames = map (λ _. []) rows; pool = ledger_of (replicate blocks None) (reservations_of cap rows) };
      tallies = [];
    }

-- what the core was opened with
abbrev pub setting_of : ℕ → GamesView → Setting
setting_of cap games = record { cap = cap; blocks = size games.storage.pool; workers = games.workers }

-- the effect of the answer to the lane's command on the records of its game
abbrev pub answer_effect : Lane → Effect
answer_effect x = (answer_of (lane_view x) (lane_command x)).effect

-- the effect of completing a job on the records: that of the answer, if it answers
abbrev pub put_effect : JobKind → Lane → Effect
put_effect kind.Begin x = if goes_on x then effect.Keep else answer_effect x
put_effect kind.Part x = effect.Keep
put_effect kind.Join x = answer_effect x

-- taking a part draws a block
abbrev pub storage_taken : JobKind → ℕ → ℕ → Storage → Storage
storage_taken kind.Begin game p storage = storage
storage_taken kind.Part game p storage = with_frame game p storage
storage_taken kind.Join game p storage = storage

abbrev pub taken_storage : JobName → Lane → Storage → Storage
taken_storage job x storage = storage_taken job.kind job.game job.part storage

-- the answer to a command is stored; a Join stores its record before its frame blocks are given
-- back
abbrev pub storage_answered : JobKind → ℕ → ℕ → Lane → Storage → Storage
storage_answered kind.Begin cap game x storage = stored cap game (answer_effect x) storage
storage_answered kind.Part cap game x storage = storage
storage_answered kind.Join cap game x storage = without_frames game (stored cap game (answer_effect x) storage)

-- an accepted move gets its parts
abbrev pub storage_put : JobKind → ℕ → ℕ → Lane → Storage → Storage
storage_put kind.Begin cap game x storage = if goes_on x then with_parts game (length (forked x).parts) storage else storage_answered kind.Begin cap game x storage
storage_put kind.Part cap game x storage = storage
storage_put kind.Join cap game x storage = storage_answered kind.Join cap game x storage

abbrev pub put_storage : ℕ → JobName → Lane → Storage → Storage
put_storage cap job x storage = storage_put job.kind cap job.game x storage

-- a new stay has no record, and its blocks are reserved
abbrev pub with_stay : ℕ → ℕ → GameRow → Storage → Storage
with_stay cap game row storage =
    record {
      packings = storage.packings ++ no_packing ∷ [];
      frames = storage.frames ++ [] ∷ [];
      pool = with_row cap game row storage.pool;
    }

-- a stay that leaves gives back the reservations of both its tags
abbrev pub pool_left : ℕ → Ledger → Ledger
pool_left game pool = without_reservation (frame_tag game) (without_reservation (record_tag game) pool)

abbrev pub unreserved_storage : ℕ → Storage → Storage
unreserved_storage game storage = record { packings = storage.packings; frames = storage.frames; pool = pool_left game storage.pool }

-- its records are dropped first
abbrev pub without_stay : ℕ → ℕ → Storage → Storage
without_stay cap game storage = unreserved_storage game (stored cap game effect.Drop storage)

abbrev pub storage_after : ℕ → Event → List Lane → Storage → Storage
storage_after cap (event.Hand game command) lanes storage = storage
storage_after cap (event.Take worker job) lanes storage = taken_storage job (lane_of lanes job.game) storage
storage_after cap (event.Put worker job) lanes storage = put_storage cap job (lane_of lanes job.game) storage
storage_after cap (event.Admit row) lanes storage = with_stay cap (length lanes) row storage
storage_after cap (event.Leave game) lanes storage = without_stay cap game storage

-- the games after an event that is enabled
abbrev pub after : ℕ → GamesView → Event → GamesView
after cap games e =
    record games {
      lanes = lane_effect games.lanes e;
      storage = storage_after cap e games.lanes games.storage;
    }

-- the games after a job was taken, with these tallies
abbrev pub games_taken : ℕ → GamesView → ℕ → JobName → List (Option TallyId) → GamesView
games_taken cap games worker job tallies = record (after cap games (event.Take worker job)) { tallies = tallies }

-- taking a Begin may change the tally of its own stay; no other tally changes
abbrev pub KeepsTallies : JobName → List (Option TallyId) → List (Option TallyId) → Type 0
KeepsTallies job old new = (game : ℕ) → (job.kind ≡ kind.Begin → game ≢ job.game) → tally_of new game ≡ tally_of old game
