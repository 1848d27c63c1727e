-- How a stay that was played alone lies in its fields, and how such stays are gathered.
use Rattle.std.specs.Prelude.{◌≡◌, ℕ, suc, ◌<◌, ◌≤◌, true, List, [], ◌∷◌, ◌++◌, map, All, Option, Some, None}
use Rattle.bs_heap.specs.PackedPlaces.{AreApart}
use Rattle.bs_heap.specs.Packing.{Packing, no_packing, numbers_of}
use Rattle.bs_heap.specs.Renaming.{renamed_packing}
use Rattle.bs_pool.specs.Assembly.{Assembled, AreNew, laid}
use Rattle.bs_pool.specs.Ledger.{Ledger, size}
use Rattle.bs_pool.specs.Woven.{ArePlaces, place_in}
use Rattle.bs_registry.specs.declared.blocks.TheConstants.{MOST_STAYS}
use Rattle.bs_sched.specs.declared.event.Event.{Event}
use Rattle.bs_sched.specs.declared.lone_stay.LoneStay.TheInside.{Inside}
use Rattle.bs_sched.specs.Game.{GameView}
use Rattle.bs_sched.specs.Lane.{is_idle}
use Rattle.bs_sched.specs.LoneStay.{LoneView}
use Rattle.bs_sched.specs.Storage.{Storage, frame_tag, frames_of, packing_of, record_tag}
use Rattle.bs_sched.specs.inner.Assembling.{GatheredView, gathered_of}

abbrev pub lone_in : {cap : ℕ} → Inside cap → LoneView
lone_in s =
    record { lane = s.game.lane; packing = s.game.packing; frames = s.game.frames.numbers; journal = s.journal.events; pool = s.pool }

-- the storage has the places of one stay
abbrev pub HasOneStay : Storage → Type 0
HasOneStay s = s ≡ record { packings = packing_of s 0 ∷ []; frames = frames_of s 0 ∷ []; pool = s.pool }

-- Stays gathered one after the other.

-- a stay without a job in progress, but for the tally of its last command
abbrev pub without_tally : GameView → GameView
without_tally v =
    record {
      tag = v.tag;
      lane = v.lane;
      packing = v.packing;
      frames = record { tag = v.frames.tag; tally = None; keys = []; numbers = v.frames.numbers; moved = [] };
    }

-- in the row of a whole, in the blocks that are free
abbrev pub placed_stay : ℕ → List (Option ℕ) → LoneView → GameView
placed_stay row owners stay =
    record {
      tag = record_tag row;
      lane = stay.lane;
      packing = renamed_packing (place_in owners) stay.packing;
      frames = record { tag = frame_tag row; tally = None; keys = []; numbers = stay.frames; moved = [] };
    }

abbrev pub stays_in : List GameView → List (List Event) → Assembled → GatheredView
stays_in games journals assembly = gathered_of (map without_tally games) journals assembly

-- the blocks of the stay of that row, if it has any
abbrev pub laid_if : ℕ → Option Ledger → Assembled → Assembled
laid_if row None a = a
laid_if row (Some pool) a = laid (record_tag row) pool a

-- with the stay of that row
abbrev pub gathered_stay : ℕ → LoneView → GatheredView → GatheredView
gathered_stay row stay g =
    record {
      games = g.games ++ placed_stay row g.assembly.ledger.owners stay ∷ [];
      journals = g.journals ++ stay.journal ∷ [];
      assembly = laid_if row stay.pool g.assembly;
    }

-- with the stays from that row on
abbrev pub gathered_stays : ℕ → List LoneView → GatheredView → GatheredView
gathered_stays row [] g = g
gathered_stays row (stay ∷ stays) g = gathered_stays (suc row) stays (gathered_stay row stay g)

-- the blocks have room
abbrev pub HasRoom : ℕ → Option Ledger → Assembled → Type 0
HasRoom row None a = Unit {0}
HasRoom row (Some pool) a = (size pool ≤ a.missing) × AreNew (record_tag row) pool a.ledger

-- the numbers in the whole of the blocks of the stay
abbrev pub AreNumbersOf : Option Ledger → List (Option ℕ) → List ℕ → Type 0
AreNumbersOf None owners numbers = numbers ≡ []
AreNumbersOf (Some pool) owners numbers = ArePlaces owners (size pool) numbers

-- the records lie in the blocks
pub record LieIn (packing : Packing) (pool : Ledger) : Type 0 where
  pub within : All (λ n. n < size pool) (numbers_of packing)
  pub apart : AreApart packing

abbrev pub LieInPool : Packing → Option Ledger → Type 0
LieInPool packing None = packing ≡ no_packing
LieInPool packing (Some pool) = LieIn packing pool

-- the stay of the next row is idle, its records lie in its blocks, and these have room
pub record IsNextStay (row : ℕ) (stay : LoneView) (g : GatheredView) : Type 0 where
  pub few : row < MOST_STAYS
  pub idle : is_idle stay.lane.stage ≡ true
  pub lie : LieInPool stay.packing stay.pool
  pub room : HasRoom row stay.pool g.assembly

abbrev pub AreNextStays : ℕ → List LoneView → GatheredView → Type 0
AreNextStays row [] g = Unit {0}
AreNextStays row (stay ∷ stays) g = IsNextStay row stay g × AreNextStays (suc row) stays (gathered_stay row stay g)
