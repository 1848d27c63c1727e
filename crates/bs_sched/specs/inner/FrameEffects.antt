-- The effect of an event on the frame blocks of its game, determined by the lane.
use Rattle.std.specs.Prelude.{ℕ, Bool, true, false, if◌then◌else◌, List, [], length, map, replicate, Option, Some, None, slice_set}
use Rattle.bs_pool.specs.Ledger.{Ledger, drawn}
use Rattle.bs_heap.specs.HeldBlocks.{all_given, next_number}
use Rattle.bs_fiber.specs.declared.job.JobKind.{JobKind}
use Rattle.bs_fiber.specs.declared.job.JobKind.TheVariants as kind
use Rattle.bs_sched.specs.declared.event.Event.{Event}
use Rattle.bs_sched.specs.declared.event.Event.TheVariants as event
use Rattle.bs_sched.specs.PartState.{PartState}
use Rattle.bs_sched.specs.PartState as part
use Rattle.bs_sched.specs.Frames.{flattened}
use Rattle.bs_sched.specs.Lane.{Lane, forked, goes_on, is_playing}
use Rattle.bs_sched.specs.Storage.{Storage, frame_tag, frames_of}

-- nothing; that many parts become ready; a block is drawn for one part; all blocks are given back
pub data FrameEffect : Type 0 where
  Keeps : FrameEffect
  Forks : ℕ → FrameEffect
  Draws : ℕ → FrameEffect
  Returns : FrameEffect

abbrev pub taken_effect : JobKind → ℕ → FrameEffect
taken_effect kind.Begin p = Keeps
taken_effect kind.Part p = Draws p
taken_effect kind.Join p = Keeps

abbrev pub brought_effect : JobKind → Lane → FrameEffect
brought_effect kind.Begin x = if goes_on x then Forks (length (forked x).parts) else Keeps
brought_effect kind.Part x = Keeps
brought_effect kind.Join x = Returns

abbrev pub frame_effect : Event → Lane → FrameEffect
frame_effect (event.Hand game command) x = Keeps
frame_effect (event.Take worker job) x = taken_effect job.kind job.part
frame_effect (event.Put worker job) x = brought_effect job.kind x
frame_effect (event.Admit row) x = Keeps
frame_effect (event.Leave game) x = Keeps

-- the block of each part of the game's move; a block that is drawn has the pool's next number
abbrev pub numbers_after : FrameEffect → List (Option ℕ) → Ledger → List (Option ℕ)
numbers_after Keeps numbers pool = numbers
numbers_after (Forks parts) numbers pool = replicate parts None
numbers_after (Draws p) numbers pool = slice_set numbers p (Some (next_number pool))
numbers_after Returns numbers pool = []

abbrev pub pool_framed : FrameEffect → ℕ → List (Option ℕ) → Ledger → Ledger
pool_framed Keeps tag numbers pool = pool
pool_framed (Forks parts) tag numbers pool = pool
pool_framed (Draws p) tag numbers pool = drawn tag (next_number pool) pool
pool_framed Returns tag numbers pool = all_given (flattened numbers) pool

abbrev pub framed_by : FrameEffect → ℕ → Storage → Storage
framed_by f game storage =
    record {
      packings = storage.packings;
      frames = slice_set storage.frames game (numbers_after f (frames_of storage game) storage.pool);
      pool = pool_framed f (frame_tag game) (frames_of storage game) storage.pool;
    }

-- The parts of the lane's move that have a block are those that were taken.

abbrev pub is_begun : PartState → Bool
is_begun part.Ready = false
is_begun (part.Out worker) = true
is_begun part.Done = true

abbrev pub begun_parts : Lane → List Bool
begun_parts x = if is_playing x.stage then map is_begun x.parts else []
