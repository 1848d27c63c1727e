-- Games that are put together, and what is gathered of them.
use Rattle.std.specs.Prelude.{◌≡◌, ℕ, ◌<◌, false, List, [], length}
use Rattle.bs_board.specs.plans.Plan.{GameRow}
use Rattle.bs_heap.specs.Renaming.{renamed_packing}
use Rattle.bs_pool.specs.Assembly.{Assembled}
use Rattle.bs_pool.specs.Ledger.{Ledger}
use Rattle.bs_sched.specs.declared.event.Event.{Event}
use Rattle.bs_sched.specs.declared.event.Event.TheVariants as event
use Rattle.bs_sched.specs.Game.{GameView}
use Rattle.bs_sched.specs.Games.{GamesView, tally_of}
use Rattle.bs_sched.specs.inner.GamesLayout.{game_at, lanes_in, storage_in, tallies_in}
use Rattle.bs_sched.specs.Machine.{lane_of}
use Rattle.bs_sched.specs.Storage.{frame_tag, frames_of, packing_of, record_tag}

abbrev pub games_of : List GameRow → ℕ → List GameView → Ledger → GamesView
games_of rows workers games pool =
    record {
      rows = rows;
      workers = workers;
      failed = false;
      lanes = lanes_in games;
      storage = storage_in games pool;
      tallies = tallies_in games;
    }

-- an event of a stay that neither comes nor goes
abbrev pub IsWork : Event → Type 0
IsWork (event.Hand game command) = Unit {0}
IsWork (event.Take worker job) = Unit {0}
IsWork (event.Put worker job) = Unit {0}
IsWork (event.Admit row) = ⊥
IsWork (event.Leave game) = ⊥

-- each stay has the tags of its row
abbrev pub ArePlaced : List GameView → Type 0
ArePlaced games =
    (game : ℕ) → game < length games → ((game_at games game).tag ≡ record_tag game) × ((game_at games game).frames.tag ≡ frame_tag game)

-- a game in the row of a whole, in blocks of other numbers
abbrev pub renamed_game : ℕ → (ℕ → ℕ) → GameView → GameView
renamed_game row number v =
    record {
      tag = record_tag row;
      lane = v.lane;
      packing = renamed_packing number v.packing;
      frames = record { tag = frame_tag row; tally = v.frames.tally; keys = []; numbers = v.frames.numbers; moved = [] };
    }

-- the game of a core of one row
pub record IsOnly (games : GamesView) (v : GameView) : Type 0 where
  pub lane : v.lane ≡ lane_of games.lanes 0
  pub packing : v.packing ≡ packing_of games.storage 0
  pub numbers : v.frames.numbers ≡ frames_of games.storage 0
  pub tally : v.frames.tally ≡ tally_of games.tallies 0

-- the games so far, the journals and the blocks
pub record GatheredView : Type 0 where
  pub games : List GameView
  pub journals : List (List Event)
  pub assembly : Assembled

abbrev pub gathered_of : List GameView → List (List Event) → Assembled → GatheredView
gathered_of games journals assembly = record { games = games; journals = journals; assembly = assembly }
