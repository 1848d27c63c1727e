-- How a stay lies in its fields, and a stay after each event.
use Rattle.std.specs.Prelude.{◌≡◌, ◌≢◌, ℕ, ◌≤◌, ◌<◌, true, false, if◌then◌else◌, List, length, map, Option}
use Rattle.bs_board.specs.declared.commands.command.Command.{Command}
use Rattle.bs_board.specs.plans.Plan.{GameRow}
use Rattle.bs_board.specs.records.Record.{record_of}
use Rattle.bs_counter.specs.Keys.{Key, TallyId}
use Rattle.bs_fiber.specs.declared.job.JobKind.{JobKind}
use Rattle.bs_fiber.specs.declared.job.JobKind.TheVariants as kind
use Rattle.bs_fiber.specs.declared.job.JobName.{JobName}
use Rattle.bs_fiber.specs.Tickets.{TicketView, IsFresh, names_of}
use Rattle.bs_fiber.specs.Work.{moved_part}
use Rattle.bs_heap.specs.Charge.{blocks_for}
use Rattle.bs_heap.specs.Heap.{Heap}
use Rattle.bs_heap.specs.HeldBlocks.{Holds, all_given}
use Rattle.bs_heap.specs.Packing.{no_packing, numbers_of}
use Rattle.bs_pool.specs.Ledger.{Ledger, reserved}
use Rattle.bs_sched.specs.declared.cores.TheConstants.{LEAST_CAPACITY}
use Rattle.bs_sched.specs.declared.game.Game.TheInside.{Inside}
use Rattle.bs_registry.specs.declared.blocks.TheConstants.{FRAME_BLOCKS}
use Rattle.bs_sched.specs.Frames.{flattened, written}
use Rattle.bs_sched.specs.inner.Frames.{forked_frames, frames_taken, idle_frames, no_frames, with_moved}
use Rattle.bs_sched.specs.Games.{answer_effect}
use Rattle.bs_sched.specs.Inputs.{input_of, job_numbers}
use Rattle.bs_sched.specs.inner.Insides.{HasParts, may_answer}
use Rattle.bs_sched.specs.Lane.{Lane, answered, closed_lane, empty_lane, forked, goes_on, is_out, is_quiet, kept_of, lane_command, lane_view, no_lane, with_part_done, with_taken, with_waiting}
use Rattle.bs_sched.specs.inner.MoveParts.{FitParts, frames_of, states_of}
use Rattle.bs_sched.specs.inner.Putting.{IsOwnOf}
use Rattle.bs_sched.specs.Storage.{frame_tag, packing_after, pool_after, record_tag}
use Rattle.bs_sched.specs.Game.{GameView}

-- a newly opened stay of that row
abbrev pub opened_game : ℕ → GameRow → GameView
opened_game game row = record { tag = record_tag game; lane = empty_lane row; packing = no_packing; frames = no_frames (frame_tag game) }

-- a row in which no stay was opened
abbrev pub no_game : GameView
no_game = record { tag = 0; lane = no_lane; packing = no_packing; frames = no_frames 0 }

-- the fiber's lane, with the parts of its move
abbrev pub lane_at : {cap : ℕ} → Inside cap → Lane
lane_at c = record c.fiber { parts = states_of c.parts }

abbrev pub game_in : {cap : ℕ} → Inside cap → GameView
game_in c = record { tag = c.heap.tag; lane = lane_at c; packing = c.heap.packing; frames = frames_of c.parts }

-- the heap keeps the records of the lane's boards
pub record KeepsBoards (x : Lane) (heap : Heap) : Type 0 where
  pub quota : heap.quota ≡ x.row.quota
  pub records : heap.records ≡ map record_of x.game

-- a stay that has left keeps no record, and is idle
pub record IsGame (cap : ℕ) {at : ℕ} (c : Inside at) : Type 0 where
  pub wide : LEAST_CAPACITY ≤ cap
  pub quota : c.heap.quota ≡ c.fiber.row.quota
  pub records : c.heap.records ≡ kept_of c.fiber
  -- room for one more record if one may be added
  pub room : may_answer c.fiber.stage ≡ true → 0 < c.heap.index_room
  pub quiet : c.fiber.is_open ≡ false → is_quiet c.fiber ≡ true
  pub many : HasParts c.fiber (states_of c.parts)
  pub parts : FitParts c.fiber c.parts

-- the blocks of the stay in the pool: those of its records and of its move, and no others
pub record HasBlocks (cap : ℕ) (v : GameView) (pool : Ledger) : Type 0 where
  pub records : Holds v.tag (numbers_of v.packing) pool
  pub room : blocks_for cap v.lane.row.quota ≤ reserved v.tag pool
  pub frames : Holds v.frames.tag (flattened v.frames.numbers) pool
  pub frame_room : reserved v.frames.tag pool ≡ FRAME_BLOCKS
  pub apart : v.tag ≢ v.frames.tag

-- The stay after each event. A block that is drawn has that number.
abbrev pub handed_game : Command → GameView → GameView
handed_game command v = record v { lane = with_waiting command v.lane }

abbrev pub taken_game : ℕ → JobName → ℕ → Option TallyId → List Key → GameView → GameView
taken_game worker job number tally keys v =
    record v { lane = with_taken worker job.kind job.part v.lane; frames = frames_taken job.kind job.part number tally keys v.frames }

abbrev pub forked_game : GameView → GameView
forked_game v = record v { lane = forked v.lane; frames = forked_frames v.frames.tag v.frames.tally (length (forked v.lane).parts) }

abbrev pub game_with_part : ℕ → GameView → GameView
game_with_part p v =
    record v { lane = with_part_done p v.lane; frames = with_moved p (written (moved_part p (lane_view v.lane) (lane_command v.lane))) v.frames }

abbrev pub answered_game : ℕ → ℕ → GameView → GameView
answered_game cap number v =
    record v {
      lane = answered v.lane;
      packing = packing_after cap number (answer_effect v.lane) v.packing;
      frames = idle_frames v.frames.tag v.frames.tally;
    }

abbrev pub completed_game : ℕ → JobKind → ℕ → ℕ → GameView → GameView
completed_game cap kind.Begin p number v = if goes_on v.lane then forked_game v else answered_game cap number v
completed_game cap kind.Part p number v = game_with_part p v
completed_game cap kind.Join p number v = answered_game cap number v

abbrev pub closed_game : GameView → GameView
closed_game v = record v { lane = closed_lane v.lane; packing = no_packing }

-- the pool after that
abbrev pub pool_answered : ℕ → GameView → Ledger → Ledger
pool_answered cap v pool = all_given (flattened v.frames.numbers) (pool_after cap v.tag (answer_effect v.lane) v.packing pool)

abbrev pub pool_completed : ℕ → JobKind → GameView → Ledger → Ledger
pool_completed cap kind.Begin v pool = if goes_on v.lane then pool else pool_answered cap v pool
pool_completed cap kind.Part v pool = pool
pool_completed cap kind.Join v pool = pool_answered cap v pool

-- the frame blocks of a job that is out, by their tag and numbers
abbrev pub own_names : GameView → JobName → List (ℕ × ℕ)
own_names v job = map (λ n. (v.frames.tag, n)) (job_numbers job.kind job.part v.frames.numbers)

-- the ticket of a job that the worker has out
pub record IsTicketOf (v : GameView) (worker : ℕ) (job : JobName) (ticket : TicketView) : Type 0 where
  pub input : ticket.input ≡ input_of v.lane worker job
  -- its frame blocks are the stay's own, in the state that the job needs
  pub names : names_of ticket.frames ≡ own_names v job
  pub fresh : IsFresh ticket

-- a worker has the stay's Begin or Join out, with these frame blocks
pub record IsAnswering (v : GameView) (names : List (ℕ × ℕ)) : Type 0 where
  pub job : JobName
  pub worker : ℕ
  pub kind : job.kind ≢ kind.Part
  pub out : is_out worker v.lane job.kind job.part ≡ true
  pub names_are : names ≡ own_names v job

-- the worker has the ticket's job out, and the ticket holds the input for it and its frame blocks
pub record IsOwnTicket (v : GameView) (worker : ℕ) (ticket : TicketView) : Type 0 where
  pub own : IsOwnOf v.lane worker ticket
  pub names : names_of ticket.frames ≡ own_names v ticket.input.job
