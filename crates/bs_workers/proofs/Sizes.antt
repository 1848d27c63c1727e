-- No event changes the number of blocks.
use Rattle.std.proofs.Common.{◌≡◌, ℕ, Bool, true, false, List, [], ◌∷◌, length, refl, ◌∙◌}
use Rattle.std.specs.Prelude.{if◌then◌else◌}
use Rattle.bs_pool.specs.Ledger.{Ledger, drawn, given, size}
use Rattle.bs_pool.proofs.Owners.{size_drawn, size_given}
use Rattle.bs_heap.specs.HeldBlocks.{all_given, next_number}
use Rattle.bs_heap.specs.Packing.{Packing, closed_numbers, fits, numbers_of}
use Rattle.bs_block.specs.Rounding.{rounded}
use Rattle.bs_game.specs.declared.reply.Effect.{Effect}
use Rattle.bs_game.specs.declared.reply.Effect.TheVariants as effect
use Rattle.bs_fiber.specs.declared.job.JobKind.{JobKind}
use Rattle.bs_fiber.specs.declared.job.JobKind.TheVariants as kind
use Rattle.bs_sched.specs.declared.event.Event.{Event}
use Rattle.bs_sched.specs.declared.event.Event.TheVariants as event
use Rattle.bs_sched.specs.Frames.{flattened}
use Rattle.bs_sched.specs.Games.{answer_effect, storage_after, storage_put, storage_taken}
use Rattle.bs_sched.specs.Lane.{Lane, forked, goes_on}
use Rattle.bs_sched.specs.Machine.{lane_of}
use Rattle.bs_sched.specs.Storage.{Storage, frame_tag, frames_of, packing_of, pool_after, record_tag, stored, with_parts}

size_all_given : (numbers : List ℕ) (pool : Ledger) → size (all_given numbers pool) ≡ size pool
size_all_given [] pool = refl
size_all_given (n ∷ numbers) pool = size_all_given numbers (given n pool) ∙ size_given pool n

size_if : (b : Bool) (one other : Ledger) (n : ℕ) → size one ≡ n → size other ≡ n → size (if b then one else other) ≡ n
size_if true one other n first second = first
size_if false one other n first second = second

size_pool_after : (cap tag : ℕ) (e : Effect) (packing : Packing) (pool : Ledger) → size (pool_after cap tag e packing pool) ≡ size pool
size_pool_after cap tag effect.Keep packing pool = refl
size_pool_after cap tag (effect.Add bytes) packing pool =
    size_if (fits cap (rounded (length bytes)) packing.current) pool (drawn tag (next_number pool) pool) (size pool) refl (size_drawn pool tag (next_number pool))
size_pool_after cap tag effect.Trim packing pool = size_all_given (closed_numbers packing) pool
size_pool_after cap tag effect.Drop packing pool = size_all_given (numbers_of packing) pool

size_stored : (cap game : ℕ) (e : Effect) (storage : Storage) → size (stored cap game e storage).pool ≡ size storage.pool
size_stored cap game e storage = size_pool_after cap (record_tag game) e (packing_of storage game) storage.pool

size_taken : (k : JobKind) (game p : ℕ) (storage : Storage) → size (storage_taken k game p storage).pool ≡ size storage.pool
size_taken kind.Begin game p storage = refl
size_taken kind.Part game p storage = size_drawn storage.pool (frame_tag game) (next_number storage.pool)
size_taken kind.Join game p storage = refl

size_begun : (on : Bool) (cap game : ℕ) (x : Lane) (storage : Storage)
    → size (if on then with_parts game (length (forked x).parts) storage else stored cap game (answer_effect x) storage).pool ≡ size storage.pool
size_begun true cap game x storage = refl
size_begun false cap game x storage = size_stored cap game (answer_effect x) storage

size_put : (k : JobKind) (cap game : ℕ) (x : Lane) (storage : Storage) → size (storage_put k cap game x storage).pool ≡ size storage.pool
size_put kind.Begin cap game x storage = size_begun (goes_on x) cap game x storage
size_put kind.Part cap game x storage = refl
size_put kind.Join cap game x storage =
    let s = stored cap game (answer_effect x) storage in
    size_all_given (flattened (frames_of s game)) s.pool ∙ size_stored cap game (answer_effect x) storage

pub size_after : (cap : ℕ) (e : Event) (lanes : List Lane) (storage : Storage) → size (storage_after cap e lanes storage).pool ≡ size storage.pool
size_after cap (event.Hand game command) lanes storage = refl
size_after cap (event.Take worker job) lanes storage = size_taken job.kind job.game job.part storage
size_after cap (event.Put worker job) lanes storage = size_put job.kind cap job.game (lane_of lanes job.game) storage
size_after cap (event.Admit row) lanes storage = refl
size_after cap (event.Leave game) lanes storage = size_stored cap game effect.Drop storage
