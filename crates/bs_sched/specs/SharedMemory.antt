-- The isolation law of the memory: all stays keep their records in the blocks of one pool, and none
-- is affected by the others there.
use Rattle.std.specs.Prelude.{◌≡◌, ◌≢◌, ℕ, ◌+◌, ◌≤◌, ◌<◌, true, false, List, [], ◌∷◌, length, map, slice_get, sum_by, Option, Some, None, All}
use Rattle.bs_board.specs.plans.Plan.{GameRow, IsFitPlan}
use Rattle.bs_heap.specs.Charge.{blocks_for}
use Rattle.bs_heap.specs.HeldBlocks.{Holds, next_number}
use Rattle.bs_heap.specs.PackedPlaces.{AreApart}
use Rattle.bs_heap.specs.Packing.{Packing, numbers_of, no_packing}
use Rattle.bs_pool.specs.Ledger.{size, free, least_free}
use Rattle.bs_pool.specs.Reservations.{all_reserved}
use Rattle.bs_sched.specs.declared.cores.TheConstants.{LEAST_CAPACITY}
use Rattle.bs_fiber.specs.declared.job.JobKind.TheVariants as kind
use Rattle.bs_sched.specs.declared.event.Event.{Event}
use Rattle.bs_sched.specs.declared.event.Event.TheVariants as event
use Rattle.bs_registry.specs.declared.blocks.TheConstants.{FRAME_BLOCKS}
use Rattle.bs_sched.specs.Frames.{flattened}
use Rattle.bs_sched.specs.Games.{GamesView, opened}
use Rattle.bs_sched.specs.Isolation.{HandsFit, own_events, row_made, shared_run}
use Rattle.bs_sched.specs.Lane.{is_playing, kept_of}
use Rattle.bs_sched.specs.Machine.{Setting, lane_of, game_of, is_admit, is_named, is_enabled, open_blocks}
use Rattle.bs_sched.specs.Memory.{World, block_in, bytes_at, effect_at, CanDraw, world_step, world_run, opened_world, games_run}
use Rattle.bs_registry.specs.Blocks.{blocks_of_all}
use Rattle.bs_sched.specs.Storage.{packing_of, frames_of, record_tag, frame_tag}

-- the blocks are large enough, and there are as many as all games of the plan reserve
pub record IsHosted (setting : Setting) (rows : List GameRow) : Type 0 where
  pub wide : LEAST_CAPACITY ≤ setting.cap
  pub plan : IsFitPlan rows
  pub room : blocks_of_all setting.cap rows ≤ setting.blocks

-- the core of all stays after all events
abbrev pub shared_world : Setting → List GameRow → List Event → World
shared_world setting rows events = world_run setting (opened_world setting rows) events

-- a core of that stay alone, with as many blocks, after the stay's accepted events
abbrev pub lone_world : Setting → List GameRow → List Event → ℕ → World
lone_world setting rows events game = world_run setting (opened_world setting (row_made setting rows events game ∷ [])) (own_events setting rows events game)

-- the games with these lanes and this storage
abbrev pub games_with : GamesView → World → GamesView
games_with games world = record games { lanes = world.lanes; storage = world.storage }

abbrev pub packing_in : World → ℕ → Packing
packing_in world game = packing_of world.storage game

-- the numbers of the blocks that hold a stay's records
abbrev pub numbers_in : World → ℕ → List ℕ
numbers_in world game = numbers_of (packing_in world game)

-- the bytes at the places of a stay's records
abbrev pub bytes_in : World → ℕ → List (List ℕ)
bytes_in world game = map (bytes_at world.memory) (packing_in world game).places

-- the numbers of the frame blocks of a stay's move
abbrev pub frames_in : World → ℕ → List ℕ
frames_in world game = flattened (frames_of world.storage game)

-- the number of frame blocks of all moves
abbrev pub all_framed : List (List (Option ℕ)) → ℕ
all_framed = sum_by (λ numbers. length (flattened numbers))

-- the number of record blocks of all stays
abbrev pub all_held : List Packing → ℕ
all_held = sum_by (λ packing. length (numbers_of packing))

-- The blocks of all stays. Each block of the pool is free, holds records of an open stay, or is the
-- frame block of a part of some stay's move, and only one of these, so no records of two stays
-- share a byte. A free block has no bytes. The frame blocks of a move belong to its own tag, at
-- most four; a stay without a move has none. If an event needs a block, one is free. The
-- reservations are those of the open stays, and they fit.
pub record SharesBlocks (setting : Setting) (world : World) : Type 0 where
  pub size : size world.storage.pool ≡ setting.blocks
  pub counts : free world.storage.pool + (all_held world.storage.packings + all_framed world.storage.frames) ≡ setting.blocks
  pub closed : (game : ℕ) → game < length world.lanes → (lane_of world.lanes game).is_open ≡ false
      → (packing_in world game ≡ no_packing) × (frames_in world game ≡ [])
  pub apart : (game other : ℕ) → game < length world.lanes → other < length world.lanes → game ≢ other
      → All (λ number. All (λ n. n ≢ number) (numbers_in world other)) (numbers_in world game)
  pub records_apart : (game other : ℕ) → game < length world.lanes → other < length world.lanes → game ≢ other
      → All (λ p. All (λ q. q.number ≢ p.number) (packing_in world other).places) (packing_in world game).places
  pub empty : (number : ℕ) → slice_get world.storage.pool.owners number ≡ Some None → block_in world.memory number ≡ []
  pub frames : (game : ℕ) → game < length world.lanes → Holds (frame_tag game) (frames_in world game) world.storage.pool
  pub frames_apart : (game other : ℕ) → game < length world.lanes → other < length world.lanes → game ≢ other
      → All (λ number. All (λ n. n ≢ number) (frames_in world other)) (frames_in world game)
  -- a frame block holds no records, not even of its own stay
  pub frames_hold_none : (game other : ℕ) → game < length world.lanes → other < length world.lanes
      → All (λ number. All (λ n. n ≢ number) (numbers_in world other)) (frames_in world game)
  pub few_frames : (game : ℕ) → game < length world.lanes → length (frames_in world game) ≤ FRAME_BLOCKS
  pub idle : (game : ℕ) → game < length world.lanes → is_playing (lane_of world.lanes game).stage ≡ false → frames_in world game ≡ []
  pub reserved : all_reserved world.storage.pool.reservations ≡ open_blocks setting.cap world.lanes
  pub room : open_blocks setting.cap world.lanes ≤ setting.blocks
  pub drawn : (worker game p : ℕ) → is_enabled setting world.lanes (event.Take worker (record { game = game; kind = kind.Part; part = p })) ≡ true
      → least_free world.storage.pool ≡ Some (next_number world.storage.pool)
  pub draws : (e : Event) → is_admit e ≡ false → is_enabled setting world.lanes e ≡ true
      → CanDraw setting.cap (effect_at e (lane_of world.lanes (game_of e))) (packing_in world (game_of e)) world.storage.pool

-- The records of one stay. Their bytes are at their places, which lie inside its blocks and do not
-- overlap. The blocks are the stay's own, and no more than are reserved for it.
pub record KeepsBytes (cap : ℕ) (world : World) (game : ℕ) : Type 0 where
  pub bytes : bytes_in world game ≡ kept_of (lane_of world.lanes game)
  pub places : AreApart (packing_in world game)
  pub own : Holds (record_tag game) (numbers_in world game) world.storage.pool
  pub few : length (numbers_in world game) ≤ blocks_for cap (lane_of world.lanes game).row.quota

-- An event that does not name a stay leaves its records where they are, with all their bytes.
pub record LeavesBytes (setting : Setting) (world : World) (game : ℕ) (e : Event) : Type 0 where
  pub packing : packing_in (world_step setting world e) game ≡ packing_in world game
  pub bytes : bytes_in (world_step setting world e) game ≡ bytes_in world game

-- Alone, its accepted events leave the very same bytes at the places of its records there.
pub record IsIsolatedInMemory (setting : Setting) (rows : List GameRow) (events : List Event) (game : ℕ) : Type 0 where
  pub keeps : KeepsBytes setting.cap (shared_world setting rows events) game
  pub alone : bytes_in (lone_world setting rows events game) 0 ≡ bytes_in (shared_world setting rows events) game
  pub others : (e : Event) → is_named game e ≡ false → LeavesBytes setting (shared_world setting rows events) game e

-- The games as the core's calls see them change in the same way, and the isolation law holds of
-- their lanes.
pub record SharesMemory (setting : Setting) (rows : List GameRow) (events : List Event) : Type 0 where
  pub core : games_run setting (opened setting.cap setting.blocks setting.workers rows) events
      ≡ games_with (opened setting.cap setting.blocks setting.workers rows) (shared_world setting rows events)
  pub lanes : (shared_world setting rows events).lanes ≡ shared_run setting rows events
  pub blocks_shared : SharesBlocks setting (shared_world setting rows events)
  pub games : (game : ℕ) → game < length (shared_run setting rows events) → IsIsolatedInMemory setting rows events game

-- For every plan that is hosted, every number of workers, and every list of events whose commands
-- and rows are within the limits.
abbrev pub MemoryLaw : Type 0
MemoryLaw =
    (setting : Setting) (rows : List GameRow) (events : List Event) → IsHosted setting rows → All HandsFit events → SharesMemory setting rows events
