-- Stays that events lead to are sound: the memory law has their blocks.
use Rattle.std.proofs.Common.{◌≡◌, ℕ, ◌+◌, ◌*◌, ◌<◌, ◌≤◌, true, false, List, [], length, sym, ap, subst, ◌∙◌, arith}
use Rattle.bs_board.specs.plans.Plan.{GameRow}
use Rattle.bs_heap.specs.Charge.{blocks_for}
use Rattle.bs_heap.specs.HeldBlocks.{Holds}
use Rattle.bs_heap.specs.PackedPlaces.{AreApart}
use Rattle.bs_heap.specs.Packing.{Packing, numbers_of}
use Rattle.bs_pool.specs.Ledger.{Ledger, reserved}
use Rattle.bs_registry.specs.declared.blocks.TheConstants.{MOST_STAYS}
use Rattle.bs_registry.specs.OpenStays.{open_stays_of}
use Rattle.bs_registry.specs.Registry.{seen}
use Rattle.bs_sched.specs.declared.event.Event.{Event}
use Rattle.bs_sched.specs.declared.games.Games.TheInside.{Inside}
use Rattle.bs_sched.specs.Core.{CoreView}
use Rattle.bs_sched.specs.Frames.{flattened}
use Rattle.bs_sched.specs.Game.{GameView}
use Rattle.bs_sched.specs.Games.{GamesView, opened}
use Rattle.bs_sched.specs.inner.Assembling.{ArePlaced, games_of}
use Rattle.bs_sched.specs.inner.GamesLayout.{AreAtRows, AreGone, IsSound, game_at, lanes_in}
use Rattle.bs_sched.specs.inner.Journal.{core_of}
use Rattle.bs_sched.specs.inner.Reserved.{AreReserved, IsReserved}
use Rattle.bs_sched.specs.Journal.{IsItsJournal, setting_in}
use Rattle.bs_sched.specs.Lane.{Lane, is_quiet}
use Rattle.bs_sched.specs.Machine.{lane_of, open_blocks}
use Rattle.bs_sched.specs.Registry.{registry_of}
use Rattle.bs_sched.specs.SharedMemory.{games_with, shared_world}
use Rattle.bs_sched.specs.Storage.{Storage, frame_tag, frames_of, packing_of, record_tag}
use Rattle.bs_sched.proofs.Journaled.{keeps_apart, quiet_closed}
use Rattle.bs_sched.proofs.ListedGames.{lane_at, many_lanes, numbers_at, packing_at}
use Rattle.bs_sched.proofs.MemoryLaw.{reserved_shared}
use Rattle.bs_sched.proofs.Reserved.{enough, with_room}

-- the blocks of a stay of a core
pub record HoldsBlocks (storage : Storage) (game : ℕ) : Type 0 where
  pub records : Holds (record_tag game) (numbers_of (packing_of storage game)) storage.pool
  pub places : AreApart (packing_of storage game)
  pub frames : Holds (frame_tag game) (flattened (frames_of storage game)) storage.pool

pub holds_blocks : (cap : ℕ) (core : CoreView) (game : ℕ) → IsItsJournal cap core → game < length core.games.lanes → HoldsBlocks core.games.storage game
holds_blocks cap core game is within =
    let apart = keeps_apart cap core is in
    let law = apart.memory in
    let world = shared_world (setting_in cap core) core.games.rows core.journal in
    let storage : world.storage ≡ core.games.storage = ap (λ (v : GamesView). v.storage) (sym law.core ∙ is.games) in
    let one = ap length apart.lanes in
    let other = ap length law.lanes in
    let own = (law.games game (omega (arith, one, within))).keeps in
    let blocks = law.blocks_shared in
    subst (λ (s : Storage). HoldsBlocks s game) storage
    (record { records = own.own; places = own.places; frames = blocks.frames game (omega (arith, one, other, within)) })

-- the reservations are those of the open stays
pub reserved_for : (cap : ℕ) (core : CoreView) → IsItsJournal cap core
    → AreReserved cap (open_blocks cap core.games.lanes) core.games.lanes core.games.storage.pool.reservations
reserved_for cap core is =
    let law = (keeps_apart cap core is).memory in
    let games : games_with (opened cap (setting_in cap core).blocks core.games.workers core.games.rows) (shared_world (setting_in cap core) core.games.rows core.journal)
    ≡ record core.games { failed = false; tallies = [] } = sym law.core ∙ is.games in
    let are = subst (λ (v : GamesView). AreReserved cap (setting_in cap core).blocks v.lanes v.storage.pool.reservations) games
    (reserved_shared (setting_in cap core) core.games.rows core.journal is.hosted is.fits) in
    with_room cap (setting_in cap core).blocks (open_blocks cap core.games.lanes) core.games.lanes core.games.storage.pool.reservations are (omega arith)

module _ (cap : ℕ) (rows : List GameRow) (workers : ℕ) (games : List GameView) (pool : Ledger) (events : List Event)
    (is : IsItsJournal cap (core_of (games_of rows workers games pool) events)) (placed : ArePlaced games) where
  abbrev core : CoreView
  core = core_of (games_of rows workers games pool) events

  pub few_games : length games ≤ MOST_STAYS
  few_games = let many = many_lanes games in let made = (keeps_apart cap core is).names.made in omega (arith, many, made)

  none_gone : AreGone games
  none_gone game less shut =
      let many = many_lanes games in
      let here = lane_at games game in
      ap is_quiet (sym here) ∙ quiet_closed cap core game is (omega (arith, many, less)) (ap (λ (x : Lane). x.is_open) here ∙ shut)

  have_blocks : AreAtRows cap games pool
  have_blocks game less stands =
      let v = game_at games game in
      let many = many_lanes games in
      let tags = placed game less in
      let here = lane_at games game in
      let open_now : (lane_of (lanes_in games) game).is_open ≡ true = ap (λ (x : Lane). x.is_open) here ∙ stands in
      let within : game < length (lanes_in games) = omega (arith, many, less) in
      let holds = holds_blocks cap core game is within in
      let aside = subst (λ (x : Lane). IsReserved cap game x.row pool.reservations) here ((reserved_for cap core is).each game within open_now) in
      let room : blocks_for cap v.lane.row.quota ≤ reserved (record_tag game) pool = enough cap game v.lane.row pool.reservations aside in
      record {
        tag = tags.0;
        frame_tag_is = tags.1;
        blocks = record {
          records = rw tags.0 (subst (λ (p : Packing). Holds (record_tag game) (numbers_of p) pool) (packing_at games game pool) holds.records);
          room = rw tags.0 room;
          frames = rw tags.1 (subst (λ ns. Holds (frame_tag game) (flattened ns) pool) (numbers_at games game pool) holds.frames);
          frame_room = rw tags.1 aside.frames;
          apart = rw (tags.0, tags.1) (λ one. let odd : 2 * game ≡ 2 * game + 1 = one in omega (arith, odd));
        };
      }

pub sound_led : (cap : ℕ) {at : ℕ} (c : Inside at) (events : List Event) → IsItsJournal cap (core_of (games_of c.rows c.workers c.list.items c.pool) events) → ArePlaced c.list.items
    → seen c.registry ≡ open_stays_of (registry_of (lanes_in c.list.items)) → IsSound cap c
sound_led cap c events is placed listed =
    record {
      wide = is.hosted.wide;
      plan = is.hosted.plan;
      few = few_games cap c.rows c.workers c.list.items c.pool events is placed;
      listed = listed;
      blocks = have_blocks cap c.rows c.workers c.list.items c.pool events is placed;
      gone = none_gone cap c.rows c.workers c.list.items c.pool events is placed;
      reserved = reserved_for cap (core_of (games_of c.rows c.workers c.list.items c.pool) events) is;
    }
