-- The bytes of all records, in the blocks of one pool. No lane contains them.
use Rattle.std.specs.Prelude.{◌≡◌, ℕ, false, Some, if◌then◌else◌, List, [], ◌∷◌, ◌++◌, length, fold, replicate, option_map, unwrap_or, slice_index_or, slice_set}
use Rattle.bs_block.specs.Bytes.{range, padded}
use Rattle.bs_block.specs.Rounding.{rounded}
use Rattle.bs_board.specs.plans.Plan.{GameRow}
use Rattle.bs_game.specs.declared.reply.Effect.{Effect}
use Rattle.bs_game.specs.declared.reply.Effect.TheVariants as effect
use Rattle.bs_heap.specs.HeldBlocks.{next_number}
use Rattle.bs_heap.specs.Packing.{Place, Packing, fits, packed, closed_numbers, numbers_of}
use Rattle.bs_pool.specs.Ledger.{Ledger, least_free}
use Rattle.bs_sched.specs.declared.event.Event.{Event}
use Rattle.bs_sched.specs.declared.event.Event.TheVariants as event
use Rattle.bs_sched.specs.Games.{GamesView, opened, after, put_effect, storage_after}
use Rattle.bs_sched.specs.Lane.{Lane}
use Rattle.bs_sched.specs.Machine.{Setting, lane_of, game_of, lane_effect, is_enabled}
use Rattle.bs_sched.specs.Storage.{Storage, packing_of}

-- the bytes of each block, by its number
abbrev pub Memory : Type 0
Memory = List (List ℕ)

pub record World : Type 0 where
  pub lanes : List Lane
  pub storage : Storage
  pub memory : Memory

abbrev pub block_in : Memory → ℕ → List ℕ
block_in memory number = slice_index_or memory number []

-- the bytes of the record that lies there
abbrev pub bytes_at : Memory → Place → List ℕ
bytes_at memory place = range place.at place.len (block_in memory place.number)

-- bytes are appended to a block
abbrev pub with_bytes : ℕ → List ℕ → Memory → Memory
with_bytes number bytes memory = slice_set memory number (block_in memory number ++ bytes)

-- blocks that are given back have no bytes
abbrev pub wiped : List ℕ → Memory → Memory
wiped [] memory = memory
wiped (number ∷ numbers) memory = wiped numbers (slice_set memory number [])

abbrev pub current_number : Packing → ℕ
current_number packing = unwrap_or (option_map (λ u. u.number) packing.current) 0

-- The effect of an answer on the bytes. An added record, with zeros up to its rounded size, is
-- appended to the block of its place; a block that is drawn for it has that number.
abbrev pub memory_with : ℕ → ℕ → Effect → Packing → Memory → Memory
memory_with cap number effect.Keep packing memory = memory
memory_with cap number (effect.Add bytes) packing memory = with_bytes (current_number (packed cap number (length bytes) packing)) (padded bytes) memory
memory_with cap number effect.Trim packing memory = wiped (closed_numbers packing) memory
memory_with cap number effect.Drop packing memory = wiped (numbers_of packing) memory

-- if the added record needs a block, one is free
abbrev pub CanDraw : ℕ → Effect → Packing → Ledger → Type 0
CanDraw cap effect.Keep packing pool = Unit {0}
CanDraw cap (effect.Add bytes) packing pool = fits cap (rounded (length bytes)) packing.current ≡ false → least_free pool ≡ Some (next_number pool)
CanDraw cap effect.Trim packing pool = Unit {0}
CanDraw cap effect.Drop packing pool = Unit {0}

-- the effect of an enabled event on the records of its stay: a leave drops all, as the end of a
-- game does
abbrev pub effect_at : Event → Lane → Effect
effect_at (event.Hand game command) x = effect.Keep
effect_at (event.Take worker job) x = effect.Keep
effect_at (event.Put worker job) x = put_effect job.kind x
effect_at (event.Admit row) x = effect.Keep
effect_at (event.Leave game) x = effect.Drop

-- The machine with its memory.

abbrev pub world_after : ℕ → World → Event → World
world_after cap world e =
    record {
      lanes = lane_effect world.lanes e;
      storage = storage_after cap e world.lanes world.storage;
      memory = memory_with cap (next_number world.storage.pool) (effect_at e (lane_of world.lanes (game_of e))) (packing_of world.storage (game_of e)) world.memory;
    }

-- an event that is not enabled changes nothing
abbrev pub world_step : Setting → World → Event → World
world_step setting world e = if is_enabled setting world.lanes e then world_after setting.cap world e else world

abbrev pub world_run : Setting → World → List Event → World
world_run setting = fold (world_step setting)

-- at first no block has a byte
abbrev pub opened_world : Setting → List GameRow → World
opened_world setting rows =
    let games = opened setting.cap setting.blocks setting.workers rows in
    record { lanes = games.lanes; storage = games.storage; memory = replicate setting.blocks [] }

-- The same events on the games as the core's calls see them, without the bytes.

abbrev pub games_step : Setting → GamesView → Event → GamesView
games_step setting games e = if is_enabled setting games.lanes e then after setting.cap games e else games

abbrev pub games_run : Setting → GamesView → List Event → GamesView
games_run setting = fold (games_step setting)
