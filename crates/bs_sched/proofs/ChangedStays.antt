-- A core after an admission, and after a leave.
use Rattle.std.proofs.Common.{◌≡◌, ◌≢◌, ℕ, ◌+◌, ◌-◌, ◌*◌, ◌<◌, ◌≤◌, true, false, List, [], ◌∷◌, ◌++◌, None, length, refl, sym, ap, subst, ◌∙◌, arith, inl, inr}
use Rattle.std.specs.Prelude.{All, ◌&&◌, count_by, nat_le, nat_lt, not, slice_set}
use Rattle.std.specs.List.{list_any}
use Rattle.std.proofs.lemmas.Bool.{cases_eq, cases_lt, leb-true, ltb-true, not-false, not-true}
use Rattle.std.proofs.lemmas.Grind.{get_or-set_at}
use Rattle.std.proofs.lemmas.List.{get_or_append_left, get_or_push, get_or-set_other, length-set, length_push, map_push}
use Rattle.bs_board.proofs.Chains.{and_both}
use Rattle.bs_board.specs.declared.limits.TheConstants.{MOST_ROWS}
use Rattle.bs_board.specs.plans.Plan.{GameRow}
use Rattle.bs_heap.specs.Charge.{blocks_for}
use Rattle.bs_heap.specs.HeldBlocks.{Holds, LeavesOthers, all_given}
use Rattle.bs_heap.specs.Packing.{Packing, no_packing, numbers_of}
use Rattle.bs_pool.specs.declared.reservation.Reservation.{Reservation}
use Rattle.bs_pool.specs.Ledger.{Ledger, ledger_of, held, reservation_of, reserved, size, IsSound as IsSoundPool}
use Rattle.bs_pool.specs.Reservations.{all_reserved, reserved_by}
use Rattle.bs_sched.specs.declared.games.Games.TheInside.{Inside}
use Rattle.bs_registry.specs.declared.blocks.TheConstants.{MOST_STAYS}
use Rattle.bs_sched.specs.Frames.{flattened}
use Rattle.bs_sched.specs.Game.{GameView}
use Rattle.bs_sched.specs.inner.Game.{HasBlocks, closed_game, no_game, opened_game}
use Rattle.bs_sched.specs.Games.{GamesView, pool_left, with_stay, without_stay}
use Rattle.bs_sched.specs.inner.GamesLayout.{AreAtRows, AreGone, IsAtRow, IsSound, game_at, games_in, lanes_in, storage_in, tallies_in}
use Rattle.bs_sched.specs.Lane.{Lane, empty_lane, is_quiet, closed_lane, may_leave, no_lane}
use Rattle.bs_sched.specs.Machine.{Setting, has_name, is_full, lane_of, may_admit, open_blocks}
use Rattle.bs_registry.specs.Blocks.{blocks_of}
use Rattle.bs_registry.specs.Registry.{with_stay as with_listed, without_stay as without_listed}
use Rattle.bs_registry.specs.Stays.{closed_stay}
use Rattle.bs_sched.specs.Registry.{stay_of}
use Rattle.bs_sched.specs.PlanBlocks.{with_row}
use Rattle.bs_sched.specs.inner.Reserved.{AreReserved, IsReserved}
use Rattle.bs_sched.specs.Storage.{frame_tag, record_tag}
use Rattle.bs_sched.proofs.ListedGames.{lane_at, lanes_set, many_lanes, packing_at, packings_set, same_numbers}
use Rattle.bs_sched.proofs.Registered.{listed_less, listed_more}
use Rattle.bs_sched.proofs.PlanBlocks.{both_removed, none_from, none_next}
use Rattle.bs_sched.proofs.Reserved.{more_of, rest_of, reserved_comes, reserved_left, with_room}
use Rattle.bs_sched.proofs.Tallies.{same_tallies}

-- only the reservations change

held_by_owners : (tag : ℕ) (numbers : List ℕ) (pool : Ledger) (rs : List Reservation) → Holds tag numbers pool → Holds tag numbers (ledger_of pool.owners rs)
held_by_owners tag numbers pool rs holds = record { owned = record { each = holds.owned.each; once = holds.owned.once }; all = holds.all }

set_aside_blocks : (cap game : ℕ) (v : GameView) (pool : Ledger) (rs : List Reservation) → IsAtRow cap game v pool → IsReserved cap game v.lane.row rs
    → IsAtRow cap game v (ledger_of pool.owners rs)
set_aside_blocks cap game v pool rs at mine =
    let records = mine.records in
    let own = ap (λ (tag : ℕ). reserved_by tag rs) at.tag in
    record {
      tag = at.tag;
      frame_tag_is = at.frame_tag_is;
      blocks = record {
        records = held_by_owners v.tag (numbers_of v.packing) pool rs at.blocks.records;
        room = omega (arith, records, own);
        frames = held_by_owners v.frames.tag (flattened v.frames.numbers) pool rs at.blocks.frames;
        frame_room = ap (λ (tag : ℕ). reserved_by tag rs) at.frame_tag_is ∙ mine.frames;
        apart = at.blocks.apart;
      };
    }

-- a tag without a reservation has no block

none_reserved : (tag : ℕ) (pool : Ledger) → reservation_of tag pool ≡ None → reserved_by tag pool.reservations ≡ 0
none_reserved tag pool none = rw none refl

pub nothing_of : (tag : ℕ) (pool : Ledger) → IsSoundPool pool → reservation_of tag pool ≡ None → Holds tag [] pool
nothing_of tag pool sound none =
    let kept = sound.kept tag in
    let zero_reserved = none_reserved tag pool none in
    record {
      owned = record { each = λ i d within. absurd (omega arith); once = λ i j d less within. absurd (omega arith) };
      all = omega (arith, kept, zero_reserved);
    }

-- a stay is admitted

module _ (cap : ℕ) (lanes : List Lane) (row : GameRow) (pool : Ledger) (sound : IsSoundPool pool)
    (aside : AreReserved cap (open_blocks cap lanes) lanes pool.reservations) (fits : blocks_of cap row ≤ size pool - open_blocks cap lanes) where
  abbrev game : ℕ
  game = length lanes

  abbrev y : Lane
  y = empty_lane row

  abbrev rs : List Reservation
  rs = more_of cap game row pool.reservations

  now_aside : AreReserved cap (size pool) (lanes ++ y ∷ []) rs
  now_aside =
      reserved_comes cap (size pool) lanes pool.reservations row
      (with_room cap (open_blocks cap lanes) (size pool) lanes pool.reservations aside (omega (arith, fits))) fits

  last_lane : lane_of (lanes ++ y ∷ []) game ≡ y
  last_lane = get_or_push lanes y no_lane game refl

  mine : IsReserved cap game row rs
  mine =
      let long = length_push lanes y in
      let stands : (lane_of (lanes ++ y ∷ []) game).is_open ≡ true = ap (λ (x : Lane). x.is_open) last_lane in
      rw last_lane at (now_aside.each game (omega (arith, long)) stands)

  others : (other : ℕ) → other < game → (lane_of lanes other).is_open ≡ true → IsReserved cap other (lane_of lanes other).row rs
  others other less stands =
      let long = length_push lanes y in
      let there : lane_of (lanes ++ y ∷ []) other ≡ lane_of lanes other = get_or_append_left lanes (y ∷ []) no_lane other less in
      let still : (lane_of (lanes ++ y ∷ []) other).is_open ≡ true = ap (λ (x : Lane). x.is_open) there ∙ stands in
      rw there at (now_aside.each other (omega (arith, less, long)) still)

come_there : (games : List GameView) (row : GameRow) → lanes_in (games ++ opened_game (length games) row ∷ []) ≡ lanes_in games ++ empty_lane row ∷ []
come_there games row = map_push (λ (v : GameView). v.lane) games (opened_game (length games) row)

module _ (cap : ℕ) (games : List GameView) (row : GameRow) (pool : Ledger) (sound : IsSoundPool pool)
    (aside : AreReserved cap (open_blocks cap (lanes_in games)) (lanes_in games) pool.reservations)
    (fits : blocks_of cap row ≤ size pool - open_blocks cap (lanes_in games)) where
  abbrev stay : GameView
  stay = opened_game (length games) row

  abbrev with_rows : List Reservation
  with_rows = more_of cap (length games) row pool.reservations

  many : length (lanes_in games) ≡ length games
  many = many_lanes games

  new_blocks : HasBlocks cap stay (ledger_of pool.owners with_rows)
  new_blocks =
      let below : All (λ r. r.tag < record_tag (length games)) pool.reservations = rw many at aside.below in
      let own : IsReserved cap (length games) row with_rows = rw many at (mine cap (lanes_in games) row pool sound aside fits) in
      let records = own.records in
      record {
        records = held_by_owners (record_tag (length games)) [] pool with_rows (nothing_of (record_tag (length games)) pool sound (none_from (length games) pool below));
        room = omega (arith, records);
        frames = held_by_owners (frame_tag (length games)) [] pool with_rows (nothing_of (frame_tag (length games)) pool sound (none_next (length games) pool below));
        frame_room = own.frames;
        apart = λ same. let odd : 2 * length games ≡ 2 * length games + 1 = same in omega (arith, odd);
      }

  rows_come : AreAtRows cap games pool → AreAtRows cap (games ++ stay ∷ []) (ledger_of pool.owners with_rows)
  rows_come all other less stands =
      let long = length_push games stay in
      elim (cases_lt other (length games)) [
        | inl ahead ↦
            let there = get_or_append_left games (stay ∷ []) no_game other ahead in
            let was : (game_at games other).lane.is_open ≡ true = rw (← there) stands in
            let lane = lane_at games other in
            let open_lane : (lane_of (lanes_in games) other).is_open ≡ true = ap (λ (x : Lane). x.is_open) lane ∙ was in
            let kept = rw (many, lane) at (others cap (lanes_in games) row pool sound aside fits other (omega (arith, many, ahead)) open_lane) in
            rw there (set_aside_blocks cap other (game_at games other) pool with_rows (all other ahead was) kept)
        | inr past ↦
            let last : length games ≡ other = omega (arith, long, less, past) in
            rw (get_or_push games stay no_game other last, ← last) (record { tag = refl; frame_tag_is = refl; blocks = new_blocks })
      ]

  gone_come : AreGone games → AreGone (games ++ stay ∷ [])
  gone_come gone other less shut =
      let long = length_push games stay in
      elim (cases_lt other (length games)) [
        | inl ahead ↦
            let there = get_or_append_left games (stay ∷ []) no_game other ahead in
            rw there (gone other ahead (rw (← there) shut))
        | inr past ↦
            let last : length games ≡ other = omega (arith, long, less, past) in
            let wrong : true ≡ false = ap (λ (v : GameView). v.lane.is_open) (sym (get_or_push games stay no_game other last)) ∙ shut in
            absurd cc
      ]

-- the conditions for a row that may be admitted
pub may_come : (setting : Setting) (lanes : List Lane) (row : GameRow) → may_admit setting lanes row ≡ true
    → (length lanes < MOST_STAYS) × (blocks_of setting.cap row ≤ setting.blocks - open_blocks setting.cap lanes)
may_come setting lanes row may =
    let fits = nat_le (blocks_of setting.cap row) (setting.blocks - open_blocks setting.cap lanes) in
    let tests = and_both (not (is_full lanes)) fits (and_both (not (list_any (has_name row) lanes)) (not (is_full lanes) && fits) may).1 in
    let few = nat_lt (count_by (λ (x : Lane). x.is_open) lanes) MOST_ROWS in
    let room = and_both few (nat_lt (length lanes) MOST_STAYS) (not-false (few && nat_lt (length lanes) MOST_STAYS) (not-true (is_full lanes) tests.0)) in
    (ltb-true (length lanes) MOST_STAYS room.1, leb-true _ _ tests.1)

-- the fields of a core after an admission
pub record Comes {at : ℕ} (cap : ℕ) (c new : Inside at) (row : GameRow) : Type 0 where
  pub rows : new.rows ≡ c.rows
  pub games : new.list.items ≡ c.list.items ++ opened_game (length c.list.items) row ∷ []
  pub listed : new.registry ≡ with_listed row tt c.registry
  pub pool : new.pool ≡ with_row cap (length c.list.items) row c.pool

pub sound_comes : (cap : ℕ) {at : ℕ} (c new : Inside at) (row : GameRow) → IsSound cap c → IsSoundPool c.pool → length c.list.items < MOST_STAYS
    → blocks_of cap row ≤ size c.pool - open_blocks cap (lanes_in c.list.items) → Comes cap c new row → IsSound cap new
sound_comes cap c new row sound pool room fits comes =
    let games = c.list.items in
    let lanes = lanes_in games in
    let w = opened_game (length games) row in
    let long = ap length comes.games ∙ length_push games w in
    let aside = sound.reserved in
    let many = many_lanes games in
    let set = come_there games row in
    let reserved_now : AreReserved cap (open_blocks cap (lanes ++ empty_lane row ∷ [])) (lanes ++ empty_lane row ∷ []) (more_of cap (length games) row c.pool.reservations)
    = rw (← many) (with_room cap (size c.pool) (open_blocks cap (lanes ++ empty_lane row ∷ [])) (lanes ++ empty_lane row ∷ [])
    (more_of cap (length lanes) row c.pool.reservations) (now_aside cap lanes row c.pool pool aside fits) (omega arith)) in
    record {
      wide = sound.wide;
      plan = rw comes.rows sound.plan;
      few = omega (arith, long, room);
      listed = rw (comes.games, set, comes.listed) (listed_more c.registry lanes sound.listed row tt);
      blocks = rw (comes.games, comes.pool) (rows_come cap games row c.pool pool aside fits sound.blocks);
      gone = rw comes.games (gone_come cap games row c.pool pool aside fits sound.gone);
      reserved = rw (comes.games, set, comes.pool) reserved_now;
    }

-- after an error
pub sound_still : (cap : ℕ) {at : ℕ} (c new : Inside at) → IsSound cap c → new.rows ≡ c.rows → new.list.items ≡ c.list.items → new.registry ≡ c.registry
    → new.pool ≡ c.pool → IsSound cap new
sound_still cap c new sound rows games registry pool =
    record {
      wide = sound.wide;
      plan = rw rows sound.plan;
      few = rw games sound.few;
      listed = rw (games, registry) sound.listed;
      blocks = rw (games, pool) sound.blocks;
      gone = rw games sound.gone;
      reserved = rw (games, pool) sound.reserved;
    }

pub storage_comes : (cap : ℕ) {at : ℕ} (c new : Inside at) (row : GameRow) → Comes cap c new row
    → storage_in new.list.items new.pool ≡ with_stay cap (length c.list.items) row (storage_in c.list.items c.pool)
storage_comes cap c new row comes =
    rw (
      comes.games,
      comes.pool,
      map_push (λ (v : GameView). v.packing) c.list.items (opened_game (length c.list.items) row),
      map_push (λ (v : GameView). v.frames.numbers) c.list.items (opened_game (length c.list.items) row),
    )
    refl

pub lanes_come : (cap : ℕ) {at : ℕ} (c new : Inside at) (row : GameRow) → Comes cap c new row → lanes_in new.list.items ≡ lanes_in c.list.items ++ empty_lane row ∷ []
lanes_come cap c new row comes = ap lanes_in comes.games ∙ come_there c.list.items row

-- what the clauses of the call say of the fields
pub may_come_in : (cap : ℕ) {at : ℕ} (c : Inside at) (view : GamesView) (row : GameRow) → games_in c ≡ view → length view.lanes < MOST_STAYS
    → blocks_of cap row ≤ size view.storage.pool - open_blocks cap view.lanes
    → (length c.list.items < MOST_STAYS) × (blocks_of cap row ≤ size c.pool - open_blocks cap (lanes_in c.list.items))
may_come_in cap c view row is room fits =
    let many = many_lanes c.list.items in
    let same = ap (λ (u : GamesView). length u.lanes) is in
    (omega (arith, many, room, same), subst (λ (u : GamesView). blocks_of cap row ≤ size u.storage.pool - open_blocks cap u.lanes) (sym is) fits)

-- a stay leaves

-- the fields of a core after a leave; the pool in the middle has none of the stay's records, and
-- still its reservations
pub record Leaves {at : ℕ} (cap : ℕ) (c new : Inside at) (game : ℕ) (w : GameView) (mid : Ledger) : Type 0 where
  pub rows : new.rows ≡ c.rows
  pub games : new.list.items ≡ slice_set c.list.items game w
  pub closed : w ≡ closed_game (game_at c.list.items game)
  pub listed : new.registry ≡ without_listed game c.registry
  pub given : mid ≡ all_given (numbers_of (game_at c.list.items game).packing) c.pool
  pub others : LeavesOthers (record_tag game) c.pool mid
  pub pool : new.pool ≡ pool_left game mid

module _ (cap game : ℕ) (games : List GameView) (w : GameView) (pool mid : Ledger) (within : game < length games) (shut : w.lane.is_open ≡ false)
    (quiet : is_quiet w.lane ≡ true) (stands : (game_at games game).lane.is_open ≡ true)
    (aside : AreReserved cap (open_blocks cap (lanes_in games)) (lanes_in games) pool.reservations) (leaves : LeavesOthers (record_tag game) pool mid) where
  abbrev lanes : List Lane
  lanes = lanes_in games

  abbrev rest : List Reservation
  rest = rest_of game mid.reservations

  within_lanes : game < length lanes
  within_lanes = let many = many_lanes games in omega (arith, many, within)

  stands_lane : (lane_of lanes game).is_open ≡ true
  stands_lane = ap (λ (x : Lane). x.is_open) (lane_at games game) ∙ stands

  rest_aside : AreReserved cap (open_blocks cap lanes) (slice_set lanes game w.lane) rest
  rest_aside = rw leaves.reservations (reserved_left cap (open_blocks cap lanes) game lanes pool.reservations w.lane aside within_lanes stands_lane shut)

  not_it : (other : ℕ) → (game_at (slice_set games game w) other).lane.is_open ≡ true → other ≢ game
  not_it other open_now same =
      let there : (game_at (slice_set games game w) other).lane.is_open ≡ false = ap (λ (v : GameView). v.lane.is_open) (get_or-set_at games game other w no_game same within) ∙ shut in
      let wrong : true ≡ false = sym open_now ∙ there in
      absurd cc

  beside : (other : ℕ) → other ≢ game → game_at (slice_set games game w) other ≡ game_at games other
  beside other differ = get_or-set_other games game other w no_game differ

  its_rest : (other : ℕ) → other < length games → other ≢ game → (game_at games other).lane.is_open ≡ true → IsReserved cap other (game_at games other).lane.row rest
  its_rest other less differ was =
      let many = many_lanes games in
      let long = length-set lanes game w.lane in
      let lane : lane_of (slice_set lanes game w.lane) other ≡ (game_at games other).lane = get_or-set_other lanes game other w.lane no_lane differ ∙ lane_at games other in
      let open_now : (lane_of (slice_set lanes game w.lane) other).is_open ≡ true = ap (λ (x : Lane). x.is_open) lane ∙ was in
      rw lane at (rest_aside.each other (omega (arith, long, less, many)) open_now)

  rows_left : AreAtRows cap games pool → AreAtRows cap (slice_set games game w) (ledger_of mid.owners rest)
  rows_left all other less open_now =
      let long = length-set games game w in
      let differ = not_it other open_now in
      let there : other < length games = omega (arith, less, long) in
      let same = beside other differ in
      let was : (game_at games other).lane.is_open ≡ true = rw (← same) open_now in
      let at = all other there was in
      let tag : (game_at games other).tag ≡ 2 * other = at.tag in
      let frame : (game_at games other).frames.tag ≡ 2 * other + 1 = at.frame_tag_is in
      let at_mid : IsAtRow cap other (game_at games other) mid
      = record {
        tag = at.tag;
        frame_tag_is = at.frame_tag_is;
        blocks = record {
          records = leaves.holds (game_at games other).tag (numbers_of (game_at games other).packing)
              (λ same. differ (let twice : (game_at games other).tag ≡ 2 * game = same in omega (arith, tag, twice))) at.blocks.records;
          room = rw leaves.reservations at.blocks.room;
          frames = leaves.holds (game_at games other).frames.tag (flattened (game_at games other).frames.numbers)
              (λ same. let even : (game_at games other).frames.tag ≡ 2 * game = same in omega (arith, frame, even)) at.blocks.frames;
          frame_room = ap (reserved_by (game_at games other).frames.tag) leaves.reservations ∙ at.blocks.frame_room;
          apart = at.blocks.apart;
        };
      } in
      rw same (set_aside_blocks cap other (game_at games other) mid rest at_mid (its_rest other there differ was))

  gone_left : AreGone games → AreGone (slice_set games game w)
  gone_left gone other less closed =
      elim (cases_eq other game) [
        | inl here ↦ rw (get_or-set_at games game other w no_game here within) quiet
        | inr differ ↦
            let there : other < length games = let long = length-set games game w in omega (arith, less, long) in
            let same = beside other differ in
            rw same (gone other there (rw (← same) closed))
      ]

pub sound_left : (cap : ℕ) {at : ℕ} (c new : Inside at) (game : ℕ) (w : GameView) (mid : Ledger) → IsSound cap c → game < length c.list.items
    → (game_at c.list.items game).lane.is_open ≡ true → is_quiet (game_at c.list.items game).lane ≡ true → Leaves cap c new game w mid → IsSound cap new
sound_left cap c new game w mid sound within stands quiet leaves =
    let games = c.list.items in
    let lanes = lanes_in games in
    let long = ap length leaves.games ∙ length-set games game w in
    let few = sound.few in
    let aside = sound.reserved in
    let many = many_lanes games in
    let set = lanes_set games game w in
    let shut : w.lane.is_open ≡ false = ap (λ (v : GameView). v.lane.is_open) leaves.closed in
    let idle : is_quiet w.lane ≡ true = ap (λ (v : GameView). is_quiet v.lane) leaves.closed ∙ quiet in
    let within_lanes : game < length lanes = omega (arith, many, within) in
    record {
      wide = sound.wide;
      plan = rw leaves.rows sound.plan;
      few = omega (arith, long, few);
      listed = rw (leaves.games, set, leaves.listed)
          (listed_less c.registry lanes sound.listed game w.lane (ap (λ (v : GameView). stay_of v.lane) leaves.closed ∙ ap (λ (x : Lane). closed_stay (stay_of x)) (sym (lane_at games game))));
      blocks = rw (leaves.games, leaves.pool) (rows_left cap game games w c.pool mid within shut idle stands aside leaves.others sound.blocks);
      gone = rw leaves.games (gone_left cap game games w c.pool mid within shut idle stands aside leaves.others sound.gone);
      reserved = rw (leaves.games, set, leaves.pool)
          (with_room cap (open_blocks cap lanes) (open_blocks cap (slice_set lanes game w.lane)) (slice_set lanes game w.lane) (rest_of game mid.reservations)
          (rest_aside cap game games w c.pool mid within shut idle stands aside leaves.others) (omega arith));
    }

pub storage_left : (cap : ℕ) {at : ℕ} (c new : Inside at) (game : ℕ) (w : GameView) (mid : Ledger) → Leaves cap c new game w mid
    → storage_in new.list.items new.pool ≡ without_stay cap game (storage_in c.list.items c.pool)
storage_left cap c new game w mid leaves =
    let there = packing_at c.list.items game c.pool in
    let none : w.packing ≡ no_packing = ap (λ (v : GameView). v.packing) leaves.closed in
    let frames = same_numbers c.list.items game w (ap (λ (v : GameView). v.frames.numbers) leaves.closed) in
    rw (leaves.games, leaves.pool, leaves.given, packings_set c.list.items game w, frames, none, ← there) refl

pub lanes_left : (cap : ℕ) {at : ℕ} (c new : Inside at) (game : ℕ) (w : GameView) (mid : Ledger) → Leaves cap c new game w mid
    → lanes_in new.list.items ≡ slice_set (lanes_in c.list.items) game (closed_lane (lane_of (lanes_in c.list.items) game))
lanes_left cap c new game w mid leaves =
    ap lanes_in leaves.games ∙ lanes_set c.list.items game w
    ∙ ap (λ (x : Lane). slice_set (lanes_in c.list.items) game x) (ap (λ (v : GameView). v.lane) leaves.closed ∙ ap closed_lane (sym (lane_at c.list.items game)))

pub tallies_left : (cap : ℕ) {at : ℕ} (c new : Inside at) (game : ℕ) (w : GameView) (mid : Ledger) → Leaves cap c new game w mid
    → tallies_in new.list.items ≡ tallies_in c.list.items
tallies_left cap c new game w mid leaves =
    ap tallies_in leaves.games ∙ same_tallies game c.list.items (game_at c.list.items game) w refl (ap (λ (v : GameView). v.frames.tally) leaves.closed)

-- what a stay that leaves gives back

pub open_quiet : (x : Lane) → may_leave x ≡ true → (x.is_open ≡ true) × (is_quiet x ≡ true)
open_quiet x may = and_both x.is_open (is_quiet x) may

pub record CanRelease (game : ℕ) (mid : Ledger) : Type 0 where
  pub records : 0 < reserved (record_tag game) mid
  pub frames : 0 < reserved (frame_tag game) mid
  pub no_records : held (record_tag game) mid ≡ 0
  pub no_frames : held (frame_tag game) mid ≡ 0

pub can_release : (cap game : ℕ) (w : GameView) (mid : Ledger) → w.tag ≡ record_tag game → w.frames.tag ≡ frame_tag game → w.packing ≡ no_packing
    → flattened w.frames.numbers ≡ [] → HasBlocks cap w mid → CanRelease game mid
can_release cap game w mid tag frame_tag_is none no_parts has =
    let room = has.room in
    let frame_room = has.frame_room in
    let some : 0 < blocks_for cap w.lane.row.quota = omega arith in
    let own : 0 < reserved w.tag mid = omega (arith, room, some) in
    let own_frames : 0 < reserved w.frames.tag mid = omega (arith, frame_room) in
    record {
      records = rw (← tag) own;
      frames = rw (← frame_tag_is) own_frames;
      no_records = ap (λ (t : ℕ). held t mid) (sym tag) ∙ has.records.all ∙ ap (λ (p : Packing). length (numbers_of p)) none;
      no_frames = ap (λ (t : ℕ). held t mid) (sym frame_tag_is) ∙ has.frames.all ∙ ap length no_parts;
    }

-- what a stay that is admitted needs

pub can_reserve : (cap : ℕ) {at : ℕ} (c : Inside at) (row : GameRow) → IsSound cap c → blocks_of cap row ≤ size c.pool - open_blocks cap (lanes_in c.list.items)
    → All (λ r. r.tag < record_tag (length c.list.items)) c.pool.reservations × (all_reserved c.pool.reservations + blocks_of cap row ≤ size c.pool)
can_reserve cap c row sound fits =
    let aside = sound.reserved in
    let all = aside.within in
    (subst (λ (n : ℕ). All (λ r. r.tag < record_tag n) c.pool.reservations) (many_lanes c.list.items) aside.below, omega (arith, all, fits))

-- what was reserved for a stay that is not admitted after all

pub can_take_back : (cap : ℕ) {at : ℕ} (c : Inside at) (row : GameRow) (mid : Ledger) → IsSound cap c → IsSoundPool c.pool
    → blocks_of cap row ≤ size c.pool - open_blocks cap (lanes_in c.list.items) → mid ≡ with_row cap (length c.list.items) row c.pool
    → CanRelease (length c.list.items) mid × (pool_left (length c.list.items) mid ≡ c.pool)
can_take_back cap c row mid sound pool fits is =
    let games = c.list.items in
    let game = length games in
    let below = (can_reserve cap c row sound fits).0 in
    rw is (
      can_release cap game (opened_game game row) (with_row cap game row c.pool) refl refl refl refl (new_blocks cap games row c.pool pool sound.reserved fits),
      ap (ledger_of c.pool.owners) (both_removed (2 * game) _ _ c.pool.reservations (none_from game c.pool below) (none_next game c.pool below)),
    )
