-- How the stays of a core lie in their fields.
use Rattle.std.specs.Prelude.{◌≡◌, ℕ, ◌+◌, ◌≤◌, ◌<◌, true, false, List, [], ◌∷◌, length, map, slice_index_or, Option, Some, None}
use Rattle.bs_counter.specs.Keys.{TallyId}
use Rattle.bs_board.specs.plans.Plan.{GameRow, IsFitPlan}
use Rattle.bs_pool.specs.Ledger.{Ledger}
use Rattle.bs_sched.specs.declared.games.Games.TheInside.{Inside}
use Rattle.bs_sched.specs.declared.cores.TheConstants.{LEAST_CAPACITY}
use Rattle.bs_registry.specs.OpenStays.{open_from, open_stays_of}
use Rattle.bs_registry.specs.Registry.{rows_open, seen}
use Rattle.bs_registry.specs.declared.blocks.TheConstants.{MOST_STAYS}
use Rattle.bs_registry.specs.declared.registry.Listed.{Listed}
use Rattle.bs_sched.specs.Game.{GameView}
use Rattle.bs_sched.specs.inner.Game.{HasBlocks, no_game, opened_game}
use Rattle.bs_sched.specs.Games.{GamesView}
use Rattle.bs_sched.specs.Lane.{Lane, is_quiet}
use Rattle.bs_sched.specs.Machine.{open_blocks}
use Rattle.bs_sched.specs.Registry.{registry_of}
use Rattle.bs_sched.specs.inner.Reserved.{AreReserved}
use Rattle.bs_sched.specs.Storage.{Storage, frame_tag, record_tag}

abbrev pub lanes_in : List GameView → List Lane
lanes_in games = map (λ v. v.lane) games

abbrev pub storage_in : List GameView → Ledger → Storage
storage_in games pool = record { packings = map (λ v. v.packing) games; frames = map (λ v. v.frames.numbers) games; pool = pool }

abbrev pub tally_before : Option TallyId → List (Option TallyId) → List (Option TallyId)
tally_before None [] = []
tally_before None (next ∷ tallies) = None ∷ next ∷ tallies
tally_before (Some tally) tallies = Some tally ∷ tallies

-- without what is None at the end
abbrev pub trimmed : List (Option TallyId) → List (Option TallyId)
trimmed [] = []
trimmed (tally ∷ tallies) = tally_before tally (trimmed tallies)

abbrev pub tallies_in : List GameView → List (Option TallyId)
tallies_in games = trimmed (map (λ v. v.frames.tally) games)

abbrev pub games_in : {cap : ℕ} → Inside cap → GamesView
games_in c =
    record {
      rows = c.rows;
      workers = c.workers;
      failed = c.failed;
      lanes = lanes_in c.list.items;
      storage = storage_in c.list.items c.pool;
      tallies = tallies_in c.list.items;
    }

abbrev pub game_at : List GameView → ℕ → GameView
game_at games game = slice_index_or games game no_game

-- newly opened games, from that row on
abbrev pub opened_games_from : ℕ → List GameRow → List GameView
opened_games_from game [] = []
opened_games_from game (row ∷ rows) = opened_game game row ∷ opened_games_from (game + 1) rows

abbrev pub opened_games : List GameRow → List GameView
opened_games = opened_games_from 0

-- the stay has the tags of that row, and its blocks
pub record IsAtRow (cap game : ℕ) (v : GameView) (pool : Ledger) : Type 0 where
  pub tag : v.tag ≡ record_tag game
  pub frame_tag_is : v.frames.tag ≡ frame_tag game
  pub blocks : HasBlocks cap v pool

abbrev pub AreAtRows : ℕ → List GameView → Ledger → Type 0
AreAtRows cap games pool = (game : ℕ) → game < length games → (game_at games game).lane.is_open ≡ true → IsAtRow cap game (game_at games game) pool

-- stays that have left are idle
abbrev pub AreGone : List GameView → Type 0
AreGone games = (game : ℕ) → game < length games → (game_at games game).lane.is_open ≡ false → is_quiet (game_at games game).lane ≡ true

abbrev pub numbers_of : List (ℕ × GameRow) → List ℕ
numbers_of = map (λ at. at.0)

abbrev pub numbers_in : {X : Type 0} → List (Listed X) → List ℕ
numbers_in stays = numbers_of (rows_open stays)

-- the rows of the stays that are open, from that row on
abbrev pub open_rows_from : ℕ → List Lane → List ℕ
open_rows_from game lanes = numbers_of (open_from game (registry_of lanes))

abbrev pub open_rows : List Lane → List ℕ
open_rows = open_rows_from 0

pub record IsSound (cap : ℕ) {at : ℕ} (c : Inside at) : Type 0 where
  pub wide : LEAST_CAPACITY ≤ cap
  pub plan : IsFitPlan c.rows
  pub few : length c.list.items ≤ MOST_STAYS
  pub listed : seen c.registry ≡ open_stays_of (registry_of (lanes_in c.list.items))
  pub blocks : AreAtRows cap c.list.items c.pool
  pub gone : AreGone c.list.items
  pub reserved : AreReserved cap (open_blocks cap (lanes_in c.list.items)) (lanes_in c.list.items) c.pool.reservations
