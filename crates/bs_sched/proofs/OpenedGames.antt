-- A newly opened core: each stay is empty, and its blocks are reserved.
use Rattle.std.proofs.Common.{◌≡◌, ℕ, zero, suc, ◌+◌, ◌*◌, ◌<◌, ◌≤◌, true, false, List, [], ◌∷◌, length, map, refl, sym, ap, ◌∙◌, arith}
use Rattle.std.specs.Prelude.{Option}
use Rattle.bs_board.specs.plans.Plan.{GameRow, IsFitPlan, row_of}
use Rattle.bs_heap.specs.Charge.{blocks_for}
use Rattle.bs_heap.specs.Packing.{no_packing}
use Rattle.bs_pool.specs.Ledger.{Ledger, ledger_of, opened, reserved}
use Rattle.bs_sched.specs.declared.cores.TheConstants.{LEAST_CAPACITY}
use Rattle.bs_sched.specs.declared.games.Games.TheInside.{Inside}
use Rattle.bs_registry.specs.declared.blocks.TheConstants.{FRAME_BLOCKS}
use Rattle.bs_sched.specs.Game.{GameView}
use Rattle.bs_sched.specs.inner.Game.{HasBlocks, opened_game}
use Rattle.bs_sched.specs.Games.{row_at}
use Rattle.bs_sched.specs.inner.GamesLayout.{AreAtRows, AreGone, IsSound, game_at, lanes_in, opened_games, opened_games_from}
use Rattle.bs_sched.specs.Isolation.{opened_lanes}
use Rattle.bs_sched.specs.Lane.{empty_lane}
use Rattle.bs_sched.specs.Machine.{open_blocks}
use Rattle.bs_registry.specs.Blocks.{blocks_of_all}
use Rattle.bs_sched.specs.PlanBlocks.{reservations_of}
use Rattle.bs_sched.specs.inner.Reserved.{AreReserved}
use Rattle.bs_sched.specs.Storage.{frame_tag, record_tag}
use Rattle.bs_registry.specs.Registry.{seen}
use Rattle.bs_registry.specs.Stays.{open_stay}
use Rattle.bs_registry.specs.OpenStays.{open_stays_of}
use Rattle.bs_sched.specs.Registry.{registry_of}
use Rattle.bs_sched.proofs.Registered.{registry_opened}
use Rattle.bs_sched.proofs.PlanBlocks.{nothing_held, reserved_for_frames, reserved_for_row}
use Rattle.bs_sched.proofs.Reserved.{reserved_opened, with_room}

many_games : (from : ℕ) (rows : List GameRow) → length (opened_games_from from rows) ≡ length rows
many_games from [] = refl
many_games from (row ∷ rows) = ap suc (many_games (from + 1) rows)

lanes_from : (from : ℕ) (rows : List GameRow) → lanes_in (opened_games_from from rows) ≡ map (λ row. empty_lane row) rows
lanes_from from [] = refl
lanes_from from (row ∷ rows) = ap (λ rest. empty_lane row ∷ rest) (lanes_from (from + 1) rows)

pub opened_lanes_are : (rows : List GameRow) → lanes_in (opened_games rows) ≡ map (λ row. empty_lane row) rows
opened_lanes_are rows = lanes_from 0 rows

-- no record and no frame has a block yet

packings_from : (from : ℕ) (rows : List GameRow) → map (λ (v : GameView). v.packing) (opened_games_from from rows) ≡ map (λ _. no_packing) rows
packings_from from [] = refl
packings_from from (row ∷ rows) = ap (λ rest. no_packing ∷ rest) (packings_from (from + 1) rows)

pub opened_packings : (rows : List GameRow) → map (λ (v : GameView). v.packing) (opened_games rows) ≡ map (λ _. no_packing) rows
opened_packings rows = packings_from 0 rows

numbers_from : (from : ℕ) (rows : List GameRow) → map (λ (v : GameView). v.frames.numbers) (opened_games_from from rows) ≡ map (λ _. []) rows
numbers_from from [] = refl
numbers_from from (row ∷ rows) = ap (λ (rest : List (List (Option ℕ))). [] ∷ rest) (numbers_from (from + 1) rows)

pub opened_numbers : (rows : List GameRow) → map (λ (v : GameView). v.frames.numbers) (opened_games rows) ≡ map (λ _. []) rows
opened_numbers rows = numbers_from 0 rows

game_from : (from place at : ℕ) (rows : List GameRow) → at ≡ from + place → place < length rows
    → game_at (opened_games_from from rows) place ≡ opened_game at (row_at rows place)
game_from from place at [] is within = absurd (omega arith)
game_from from zero at (row ∷ rows) is within =
    let here : at ≡ from = omega arith in
    rw here refl
game_from from (suc place) at (row ∷ rows) is within = game_from (from + 1) place at rows (omega arith) (omega arith)

opened_at : (game : ℕ) (rows : List GameRow) → game < length rows → game_at (opened_games rows) game ≡ opened_game game (row_at rows game)
opened_at game rows within = game_from 0 game game rows (omega arith) within

-- an empty stay has its blocks if enough are reserved
empty_blocks : (cap game blocks : ℕ) (row : GameRow) (pool : Ledger) → pool.owners ≡ (opened blocks).owners → blocks_for cap row.quota ≤ reserved (record_tag game) pool
    → reserved (frame_tag game) pool ≡ FRAME_BLOCKS → HasBlocks cap (opened_game game row) pool
empty_blocks cap game blocks row pool owners room frame_room =
    record {
      records = nothing_held blocks (record_tag game) pool owners;
      room = room;
      frames = nothing_held blocks (frame_tag game) pool owners;
      frame_room = frame_room;
      apart = λ same. let odd : 2 * game ≡ 2 * game + 1 = same in omega (arith, odd);
    }

rows_opened : (cap blocks : ℕ) (rows : List GameRow) (pool : Ledger) → pool ≡ ledger_of (opened blocks).owners (reservations_of cap rows)
    → AreAtRows cap (opened_games rows) pool
rows_opened cap blocks rows pool is game less stands =
    let within : game < length rows = let long = many_games 0 rows in omega (arith, long) in
    let set_aside = reserved_for_row cap game rows (row_of [] 0) within in
    let room : reserved (record_tag game) pool ≡ blocks_for cap (row_at rows game).quota = rw is set_aside in
    let frame_room : reserved (frame_tag game) pool ≡ FRAME_BLOCKS = rw is (reserved_for_frames cap game rows within) in
    rw (opened_at game rows within)
    (record {
      tag = refl;
      frame_tag_is = refl;
      blocks = empty_blocks cap game blocks (row_at rows game) pool (ap (λ (p : Ledger). p.owners) is) (omega (arith, room)) frame_room;
    })

none_gone : (rows : List GameRow) → AreGone (opened_games rows)
none_gone rows game less shut =
    let within : game < length rows = let long = many_games 0 rows in omega (arith, long) in
    let wrong : true ≡ false = ap (λ (v : GameView). v.lane.is_open) (sym (opened_at game rows within)) ∙ shut in
    absurd cc

set_aside : (cap blocks : ℕ) (rows : List GameRow) (pool : Ledger) → pool ≡ ledger_of (opened blocks).owners (reservations_of cap rows) → blocks_of_all cap rows ≤ blocks
    → AreReserved cap (open_blocks cap (opened_lanes rows)) (opened_lanes rows) pool.reservations
set_aside cap blocks rows pool is room =
    rw is (with_room cap blocks (open_blocks cap (opened_lanes rows)) (opened_lanes rows) (reservations_of cap rows) (reserved_opened cap blocks rows room) (omega arith))

pub sound_opened : (cap blocks : ℕ) {at : ℕ} (c : Inside at) → LEAST_CAPACITY ≤ cap → IsFitPlan c.rows → blocks_of_all cap c.rows ≤ blocks
    → c.list.items ≡ opened_games c.rows → seen c.registry ≡ open_stays_of (map open_stay c.rows)
    → c.pool ≡ ledger_of (opened blocks).owners (reservations_of cap c.rows) → IsSound cap c
sound_opened cap blocks c wide plan room games listed pool =
    let many : length c.list.items ≡ length c.rows = ap length games ∙ many_games 0 c.rows in
    let few = plan.few in
    let lanes : lanes_in c.list.items ≡ map (λ row. empty_lane row) c.rows = ap lanes_in games ∙ opened_lanes_are c.rows in
    record {
      wide = wide;
      plan = plan;
      few = omega (arith, many, few);
      listed = listed ∙ ap open_stays_of (sym (registry_opened c.rows) ∙ ap registry_of (sym lanes));
      blocks = rw games (rows_opened cap blocks c.rows c.pool pool);
      gone = rw games (none_gone c.rows);
      reserved = rw lanes (set_aside cap blocks c.rows c.pool pool room);
    }
