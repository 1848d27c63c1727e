-- Where the records of all games lie, and the effect of an answer on that. No lane contains it.
use Rattle.std.specs.Prelude.{ℕ, ◌*◌, ◌+◌, if◌then◌else◌, List, [], length, replicate, slice_index_or, slice_set, Option, Some, None}
use Rattle.bs_block.specs.Rounding.{rounded}
use Rattle.bs_pool.specs.Ledger.{Ledger, drawn}
use Rattle.bs_heap.specs.HeldBlocks.{all_given, next_number}
use Rattle.bs_heap.specs.Packing.{Packing, no_packing, packed, packing_of_last, closed_numbers, numbers_of, fits}
use Rattle.bs_sched.specs.Frames.{flattened}
use Rattle.bs_game.specs.declared.reply.Effect.{Effect}
use Rattle.bs_game.specs.declared.reply.Effect.TheVariants as effect

-- the packing of each game's records, by its row, and the pool of all blocks
pub record Storage : Type 0 where
  pub packings : List Packing
  -- by row too, the frame block of each part of the game's move
  pub frames : List (List (Option ℕ))
  pub pool : Ledger

-- the tag of a game's records
abbrev pub record_tag : ℕ → ℕ
record_tag game = 2 * game

-- the tag of the frame blocks of a game's moves
abbrev pub frame_tag : ℕ → ℕ
frame_tag game = 2 * game + 1

abbrev pub packing_of : Storage → ℕ → Packing
packing_of storage game = slice_index_or storage.packings game no_packing

-- the packing of a game's records after an effect; a block that is opened has that number
abbrev pub packing_after : ℕ → ℕ → Effect → Packing → Packing
packing_after cap number effect.Keep packing = packing
packing_after cap number (effect.Add bytes) packing = packed cap number (length bytes) packing
packing_after cap number effect.Trim packing = packing_of_last packing
packing_after cap number effect.Drop packing = no_packing

-- the pool after that: one block drawn if the record needs it, or blocks given back
abbrev pub pool_after : ℕ → ℕ → Effect → Packing → Ledger → Ledger
pool_after cap tag effect.Keep packing pool = pool
pool_after cap tag (effect.Add bytes) packing pool = if fits cap (rounded (length bytes)) packing.current then pool else drawn tag (next_number pool) pool
pool_after cap tag effect.Trim packing pool = all_given (closed_numbers packing) pool
pool_after cap tag effect.Drop packing pool = all_given (numbers_of packing) pool

-- blocks have `cap` bytes; only the packing of that game changes
abbrev pub stored : ℕ → ℕ → Effect → Storage → Storage
stored cap game effect storage =
    record {
      frames = storage.frames;
      packings = slice_set storage.packings game (packing_after cap (next_number storage.pool) effect (packing_of storage game));
      pool = pool_after cap (record_tag game) effect (packing_of storage game) storage.pool;
    }

abbrev pub frames_of : Storage → ℕ → List (Option ℕ)
frames_of storage game = slice_index_or storage.frames game []

-- the game's move begins with `parts` parts, none of which has a block
abbrev pub with_parts : ℕ → ℕ → Storage → Storage
with_parts game parts storage = record storage { frames = slice_set storage.frames game (replicate parts None) }

-- the next block is drawn for a part
abbrev pub with_frame : ℕ → ℕ → Storage → Storage
with_frame game p storage =
    record {
      packings = storage.packings;
      frames = slice_set storage.frames game (slice_set (frames_of storage game) p (Some (next_number storage.pool)));
      pool = drawn (frame_tag game) (next_number storage.pool) storage.pool;
    }

-- the move is answered: its frame blocks are given back
abbrev pub without_frames : ℕ → Storage → Storage
without_frames game storage =
    record {
      packings = storage.packings;
      frames = slice_set storage.frames game [];
      pool = all_given (flattened (frames_of storage game)) storage.pool;
    }
