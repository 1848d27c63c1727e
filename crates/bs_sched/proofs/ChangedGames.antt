-- A core of which one game has changed.
use Rattle.std.proofs.Common.{◌≡◌, ◌≢◌, ℕ, ◌+◌, ◌*◌, ◌<◌, true, false, List, [], length, map, Result, Ok, Err, refl, sym, ap, subst, ◌∙◌, get_or, arith, inl, inr}
use Rattle.std.specs.Prelude.{◌↔◌, nat_lt, Option, None, OnOk, OnErr, replicate, slice_set, Some}
use Rattle.std.specs.Vec.{with_item}
use Rattle.std.proofs.lemmas.Bool.{cases_Bool, cases_eq, lt-ltb}
use Rattle.std.proofs.lemmas.Grind.{get_or-set_at}
use Rattle.std.proofs.lemmas.List.{get_or-set_other, get_or-set_same, length-set, set-get_or}
use Rattle.bs_board.proofs.Chains.{and_both}
use Rattle.bs_board.specs.declared.commands.command.Command.{Command}
use Rattle.bs_counter.specs.Keys.{Key, TallyId}
use Rattle.bs_fiber.specs.declared.job.JobKind.{JobKind}
use Rattle.bs_fiber.specs.declared.job.JobKind.TheVariants as kind
use Rattle.bs_fiber.specs.declared.job.JobName.{JobName}
use Rattle.bs_fiber.specs.Tickets.{TicketView}
use Rattle.bs_heap.specs.HeldBlocks.{next_number}
use Rattle.bs_pool.specs.declared.reservation.Reservation.{Reservation}
use Rattle.bs_pool.specs.Ledger.{Ledger}
use Rattle.bs_sched.specs.declared.games.Games.TheInside.{Inside}
use Rattle.bs_sched.specs.inner.Frames.{LeavesBut, pool_taken}
use Rattle.bs_sched.specs.Game.{GameView}
use Rattle.bs_sched.specs.inner.Game.{HasBlocks, answered_game, completed_game, forked_game, IsOwnTicket, handed_game, no_game, own_names, pool_completed, taken_game}
use Rattle.bs_sched.specs.declared.event.Event.TheVariants as event
use Rattle.bs_sched.specs.Games.{GamesView, after, answer_effect, games_taken, storage_put, storage_taken}
use Rattle.bs_sched.specs.inner.Games.{games_completed}
use Rattle.bs_sched.specs.inner.GamesLayout.{AreAtRows, AreGone, IsAtRow, IsSound, game_at, games_in, lanes_in, storage_in, tallies_in}
use Rattle.bs_sched.specs.Inputs.{input_of, job_numbers, names_for}
use Rattle.bs_sched.specs.Lane.{Lane, forked, goes_on, is_out, is_quiet, is_ready, may_leave, with_put, with_waiting}
use Rattle.bs_sched.specs.Machine.{lane_of, open_blocks}
use Rattle.bs_sched.specs.Putting.{IsOwn}
use Rattle.bs_sched.specs.inner.Reserved.{AreReserved}
use Rattle.bs_sched.specs.Storage.{frame_tag, frames_of, record_tag, stored, without_frames}
use Rattle.bs_sched.proofs.Brought.{answered_storage}
use Rattle.bs_sched.proofs.ChangedGame.{left_blocks, taken_boards}
use Rattle.bs_sched.proofs.ListedGames.{lane_at, lane_read, lanes_set, many_lanes, numbers_at, numbers_set, packing_at, packings_set, read_at, same_numbers, same_packings}
use Rattle.bs_sched.proofs.Registered.{listed_same}
use Rattle.bs_sched.proofs.OwnJobs.{own_out}
use Rattle.bs_sched.proofs.Reserved.{reserved_changed, with_room}
use Rattle.bs_sched.proofs.RightRuns.{busy_out, busy_ready, open_busy}
use Rattle.bs_sched.proofs.Tallies.{same_tallies}

-- a stay keeps its tags and its row, and is as open as before
pub record IsSameStay (v w : GameView) : Type 0 where
  pub tag : w.tag ≡ v.tag
  pub frame_tag_is : w.frames.tag ≡ v.frames.tag
  pub row : w.lane.row ≡ v.lane.row
  pub flag : w.lane.is_open ≡ v.lane.is_open

pub handed_stay : {A B : Type 0} (result : Result A B) (v w : GameView) (command : Command) → OnOk result (w ≡ handed_game command v) → OnErr result (w ≡ v) → IsSameStay v w
handed_stay (Ok value) v w command handed same = rw handed (record { tag = refl; frame_tag_is = refl; row = refl; flag = refl })
handed_stay (Err error) v w command handed same = rw same (record { tag = refl; frame_tag_is = refl; row = refl; flag = refl })

taken_frame_tag : (k : JobKind) (worker game p number : ℕ) (tally : Option TallyId) (keys : List Key) (v : GameView)
    → (taken_game worker (record { game = game; kind = k; part = p }) number tally keys v).frames.tag ≡ v.frames.tag
taken_frame_tag kind.Begin worker game p number tally keys v = refl
taken_frame_tag kind.Part worker game p number tally keys v = refl
taken_frame_tag kind.Join worker game p number tally keys v = refl

pub taken_stay : {A B : Type 0} (result : Result A B) (v w : GameView) (worker : ℕ) (job : JobName) (number : ℕ) (tally : Option TallyId) (keys : List Key)
    → OnOk result (w ≡ taken_game worker job number tally keys v) → OnErr result (w ≡ v) → IsSameStay v w
taken_stay (Ok value) v w worker job number tally keys taken same =
    let boards = taken_boards v.lane w.lane worker job.kind job.part (ap (λ (u : GameView). u.lane) taken) in
    record {
      tag = ap (λ (u : GameView). u.tag) taken;
      frame_tag_is = ap (λ (u : GameView). u.frames.tag) taken ∙ taken_frame_tag job.kind worker job.game job.part number tally keys v;
      row = boards.row;
      flag = boards.flag;
    }
taken_stay (Err error) v w worker job number tally keys taken same = rw same (record { tag = refl; frame_tag_is = refl; row = refl; flag = refl })

completed_as : (k : JobKind) (cap p number : ℕ) (v : GameView) → IsSameStay v (completed_game cap k p number v)
completed_as kind.Begin cap p number v =
    elim (cases_Bool (goes_on v.lane)) [
      | inl goes ↦ rw goes (record { tag = refl; frame_tag_is = refl; row = refl; flag = refl })
      | inr stays ↦ rw stays (record { tag = refl; frame_tag_is = refl; row = refl; flag = refl })
    ]
completed_as kind.Part cap p number v = record { tag = refl; frame_tag_is = refl; row = refl; flag = refl }
completed_as kind.Join cap p number v = record { tag = refl; frame_tag_is = refl; row = refl; flag = refl }

pub completed_stay : (k : JobKind) (cap p number : ℕ) (v w : GameView) → w ≡ completed_game cap k p number v → IsSameStay v w
completed_stay k cap p number v w is = rw is (completed_as k cap p number v)

-- a core stays sound if an open stay changes and its blocks are still its own

open_beside : (games : List GameView) (game other : ℕ) (w : GameView) → other ≢ game → game_at (slice_set games game w) other ≡ game_at games other
open_beside games game other w differ = get_or-set_other games game other w no_game differ

others_left : (cap game other : ℕ) (v : GameView) (pool pool' : Ledger) → other ≢ game → IsAtRow cap other v pool
    → LeavesBut (record_tag game) (frame_tag game) pool pool' → IsAtRow cap other v pool'
others_left cap game other v pool pool' differ at leaves =
    let tag : v.tag ≡ 2 * other = at.tag in
    let frames : v.frames.tag ≡ 2 * other + 1 = at.frame_tag_is in
    record {
      tag = at.tag;
      frame_tag_is = at.frame_tag_is;
      blocks = left_blocks cap v (record_tag game) (frame_tag game) pool pool' at.blocks
          (λ same. differ (let twice : v.tag ≡ 2 * game = same in omega (arith, tag, twice)))
          (λ same. let odd : v.tag ≡ 2 * game + 1 = same in omega (arith, tag, odd))
          (λ same. let even : v.frames.tag ≡ 2 * game = same in omega (arith, frames, even))
          (λ same. differ (let twice : v.frames.tag ≡ 2 * game + 1 = same in omega (arith, frames, twice))) leaves;
    }

changed_rows : (cap game : ℕ) (games : List GameView) (v w : GameView) (pool pool' : Ledger) → AreAtRows cap games pool → game < length games → v ≡ game_at games game
    → v.lane.is_open ≡ true → IsSameStay v w → HasBlocks cap w pool' → LeavesBut v.tag v.frames.tag pool pool' → AreAtRows cap (slice_set games game w) pool'
changed_rows cap game games v w pool pool' all within there stands same has leaves other less is_open =
    let here : IsAtRow cap game v pool = rw there (all game within (rw (← there) stands)) in
    elim (cases_eq other game) [
      | inl is ↦
          rw (get_or-set_at games game other w no_game is within, is)
          (record { tag = same.tag ∙ here.tag; frame_tag_is = same.frame_tag_is ∙ here.frame_tag_is; blocks = has })
      | inr differ ↦
          let before : other < length games = let l = length-set games game w in omega (arith, l) in
          let beside = open_beside games game other w differ in
          let leaves_rows = subst (λ (own : ℕ). LeavesBut (record_tag game) own pool pool') here.frame_tag_is (subst (λ (own : ℕ). LeavesBut own v.frames.tag pool pool') here.tag leaves) in
          rw beside (others_left cap game other (game_at games other) pool pool' differ (all other before (rw (← beside) is_open)) leaves_rows)
    ]

changed_gone : (game : ℕ) (games : List GameView) (w : GameView) → AreGone games → w.lane.is_open ≡ true → game < length games → AreGone (slice_set games game w)
changed_gone game games w gone stands within other less shut =
    elim (cases_eq other game) [
      | inl here ↦
          let there = get_or-set_at games game other w no_game here within in
          let wrong : true ≡ false = sym stands ∙ ap (λ (u : GameView). u.lane.is_open) (sym there) ∙ shut in
          absurd cc
      | inr differ ↦
          let before : other < length games = let l = length-set games game w in omega (arith, l) in
          let beside = open_beside games game other w differ in
          rw beside (gone other before (rw (← beside) shut))
    ]

-- the reservations are still right if a lane changes and keeps its row
kept_aside : (cap game : ℕ) (lanes : List Lane) (rs rs' : List Reservation) (x : Lane) → AreReserved cap (open_blocks cap lanes) lanes rs → rs' ≡ rs → game < length lanes
    → x.row ≡ (lane_of lanes game).row → x.is_open ≡ (lane_of lanes game).is_open
    → AreReserved cap (open_blocks cap (slice_set lanes game x)) (slice_set lanes game x) rs'
kept_aside cap game lanes rs rs' x reserved same within row flag =
    rw same (with_room cap (open_blocks cap lanes) (open_blocks cap (slice_set lanes game x)) (slice_set lanes game x) rs
    (reserved_changed cap (open_blocks cap lanes) game lanes rs x reserved within row flag) (omega arith))

pub sound_game : (cap : ℕ) {at : ℕ} (c : Inside at) (game : ℕ) (v w : GameView) (pool : Ledger) → IsSound cap c → game < length c.list.items
    → v ≡ game_at c.list.items game → v.lane.is_open ≡ true → IsSameStay v w → HasBlocks cap w pool → LeavesBut v.tag v.frames.tag c.pool pool
    → IsSound cap (record c { list = with_item c.list game w; pool = pool })
sound_game cap c game v w pool sound within there stands same has leaves =
    let games = c.list.items in
    let lanes = lanes_in games in
    let long = length-set games game w in
    let few = sound.few in
    let many = many_lanes games in
    let set = lanes_set games game w in
    let lane : lane_of lanes game ≡ v.lane = lane_at games game ∙ ap (λ (u : GameView). u.lane) (sym there) in
    let row : w.lane.row ≡ (lane_of lanes game).row = same.row ∙ ap (λ (x : Lane). x.row) (sym lane) in
    let flag : w.lane.is_open ≡ (lane_of lanes game).is_open = same.flag ∙ ap (λ (x : Lane). x.is_open) (sym lane) in
    record {
      wide = sound.wide;
      plan = sound.plan;
      few = omega (arith, long, few);
      listed = rw set (listed_same c.registry lanes sound.listed game w.lane (λ i. record { row = row i; is_open = flag i }));
      blocks = changed_rows cap game games v w c.pool pool sound.blocks within there stands same has leaves;
      gone = changed_gone game games w sound.gone (same.flag ∙ stands) within;
      reserved = rw set (kept_aside cap game lanes c.pool.reservations pool.reservations w.lane sound.reserved leaves.reservations (omega (arith, many, within)) row flag);
    }

-- where the records and the frame blocks of a game lie once its job was taken
pub taken_storage_is : (k : JobKind) (game worker p number : ℕ) (games : List GameView) (pool pool' : Ledger) (tally : Option TallyId) (keys : List Key) (v w : GameView)
    → v ≡ game_at games game → v.frames.tag ≡ frame_tag game → number ≡ next_number pool
    → w ≡ taken_game worker (record { game = game; kind = k; part = p }) number tally keys v
    → pool' ≡ pool_taken k v.frames.tag number pool → storage_in (slice_set games game w) pool' ≡ storage_taken k game p (storage_in games pool)
taken_storage_is kind.Begin game worker p number games pool pool' tally keys v w there tag is taken drawn =
    rw (
      same_packings games game w (ap (λ (u : GameView). u.packing) (taken ∙ ap (taken_game worker (record { game = game; kind = kind.Begin; part = p }) number tally keys) there)),
      same_numbers games game w (ap (λ (u : GameView). u.frames.numbers) (taken ∙ ap (taken_game worker (record { game = game; kind = kind.Begin; part = p }) number tally keys) there)),
      drawn,
    )
    refl
taken_storage_is kind.Part game worker p number games pool pool' tally keys v w there tag is taken drawn =
    let same = ap (λ (u : GameView). u.packing) taken ∙ ap (λ (u : GameView). u.packing) there in
    let at = numbers_at games game pool ∙ ap (λ (u : GameView). u.frames.numbers) (sym there) in
    let numbers : w.frames.numbers ≡ slice_set v.frames.numbers p (Some number) = ap (λ (u : GameView). u.frames.numbers) taken in
    rw (same_packings games game w same, numbers_set games game w, numbers, drawn, tag, is, ← at) refl
taken_storage_is kind.Join game worker p number games pool pool' tally keys v w there tag is taken drawn =
    rw (
      same_packings games game w (ap (λ (u : GameView). u.packing) taken ∙ ap (λ (u : GameView). u.packing) there),
      same_numbers games game w (ap (λ (u : GameView). u.frames.numbers) taken ∙ ap (λ (u : GameView). u.frames.numbers) there),
      drawn,
    )
    refl

-- ---- a job is completed

pub completed_lane : (k : JobKind) (cap p number : ℕ) (v w : GameView) → w ≡ completed_game cap k p number v → w.lane ≡ with_put k p v.lane
completed_lane kind.Begin cap p number v w is =
    ap (λ (u : GameView). u.lane) is
    ∙ elim (cases_Bool (goes_on v.lane)) [
      | inl goes ↦ rw goes refl
      | inr stays ↦ rw stays refl
    ]
completed_lane kind.Part cap p number v w is = ap (λ (u : GameView). u.lane) is
completed_lane kind.Join cap p number v w is = ap (λ (u : GameView). u.lane) is

completed_tally_is : (k : JobKind) (cap p number : ℕ) (v : GameView) → (completed_game cap k p number v).frames.tally ≡ v.frames.tally
completed_tally_is kind.Begin cap p number v =
    elim (cases_Bool (goes_on v.lane)) [
      | inl goes ↦ rw goes refl
      | inr stays ↦ rw stays refl
    ]
completed_tally_is kind.Part cap p number v = refl
completed_tally_is kind.Join cap p number v = refl

pub completed_tally : (k : JobKind) (cap p number : ℕ) (v w : GameView) → w ≡ completed_game cap k p number v → w.frames.tally ≡ v.frames.tally
completed_tally k cap p number v w is = ap (λ (u : GameView). u.frames.tally) is ∙ completed_tally_is k cap p number v

-- the command is answered, and the frame blocks are given back
answered_there : (cap game : ℕ) (games : List GameView) (pool pool' : Ledger) (v w : GameView) → v ≡ game_at games game → v.tag ≡ record_tag game
    → w ≡ answered_game cap (next_number pool) v → pool' ≡ pool_completed cap kind.Join v pool
    → storage_in (slice_set games game w) pool' ≡ without_frames game (stored cap game (answer_effect v.lane) (storage_in games pool))
answered_there cap game games pool pool' v w there tag is given =
    let packing = packing_at games game pool ∙ ap (λ (u : GameView). u.packing) (sym there) in
    let numbers = numbers_at games game pool ∙ ap (λ (u : GameView). u.frames.numbers) (sym there) in
    let none : w.frames.numbers ≡ [] = ap (λ (u : GameView). u.frames.numbers) is in
    let packed = ap (λ (u : GameView). u.packing) is in
    rw (packings_set games game w, numbers_set games game w, none, packed, given, ← tag, ← packing, ← numbers) refl

pub completed_storage : (k : JobKind) (cap game p : ℕ) (games : List GameView) (pool pool' : Ledger) (v w : GameView) → v ≡ game_at games game → v.tag ≡ record_tag game
    → (k ≡ kind.Begin → v.frames.numbers ≡ []) → w ≡ completed_game cap k p (next_number pool) v → pool' ≡ pool_completed cap k v pool
    → storage_in (slice_set games game w) pool' ≡ storage_put k cap game v.lane (storage_in games pool)
completed_storage kind.Begin cap game p games pool pool' v w there tag none is given =
    elim (cases_Bool (goes_on v.lane)) [
      | inl goes ↦
          let went : w ≡ forked_game v = rw goes at is in
          let same_pool : pool' ≡ pool = rw goes at given in
          let same : w.packing ≡ (game_at games game).packing = ap (λ (u : GameView). u.packing) went ∙ ap (λ (u : GameView). u.packing) there in
          let numbers : w.frames.numbers ≡ replicate (length (forked v.lane).parts) None = ap (λ (u : GameView). u.frames.numbers) went in
          rw (goes, same_packings games game w same, numbers_set games game w, numbers, same_pool) refl
      | inr stays ↦
          let went : w ≡ answered_game cap (next_number pool) v = rw stays at is in
          let pool_is : pool' ≡ pool_completed cap kind.Join v pool = rw stays at given in
          let nothing : frames_of (storage_in games pool) game ≡ [] = numbers_at games game pool ∙ ap (λ (u : GameView). u.frames.numbers) (sym there) ∙ none refl in
          let other : kind.Begin ≢ kind.Part = λ same. absurd cc in
          rw stays (answered_there cap game games pool pool' v w there tag went pool_is
          ∙ answered_storage kind.Begin cap game v.lane (storage_in games pool) other (λ begins. nothing))
    ]
completed_storage kind.Part cap game p games pool pool' v w there tag none is given =
    rw (
      same_packings games game w (ap (λ (u : GameView). u.packing) is ∙ ap (λ (u : GameView). u.packing) there),
      same_numbers games game w (ap (λ (u : GameView). u.frames.numbers) is ∙ ap (λ (u : GameView). u.frames.numbers) there),
      given,
    )
    refl
completed_storage kind.Join cap game p games pool pool' v w there tag none is given = answered_there cap game games pool pool' v w there tag is given

-- ---- the stay of a row, and the games once it has changed

pub record IsThere {at : ℕ} (c : Inside at) (view : GamesView) (game : ℕ) (v : GameView) : Type 0 where
  pub within : game < length c.list.items
  pub there : v ≡ game_at c.list.items game
  pub lane : lane_of view.lanes game ≡ v.lane

pub stay_there : {at : ℕ} (c : Inside at) (view : GamesView) (game : ℕ) (v : GameView) → games_in c ≡ view → game < length view.lanes
    → v ≡ get_or c.list.items game v → IsThere c view game v
stay_there c view game v is less read =
    let games = c.list.items in
    let many = many_lanes games in
    let same = ap (λ (u : GamesView). length u.lanes) is in
    let within : game < length games = omega (arith, many, same, less) in
    let lane : lane_of view.lanes game ≡ lane_of (lanes_in games) game = ap (λ (u : GamesView). lane_of u.lanes game) (sym is) in
    record { within = within; there = read_at games game v no_game within read; lane = lane ∙ lane_read games game v within read }

pub names_there : {at : ℕ} (c : Inside at) (view : GamesView) (job : JobName) (v : GameView) → games_in c ≡ view → IsThere c view job.game v
    → v.frames.tag ≡ frame_tag job.game → own_names v job ≡ names_for view.storage job
names_there c view job v is here tag =
    let named : ℕ → List (Option ℕ) → List (ℕ × ℕ) = λ own ns. map (λ n. (own, n)) (job_numbers job.kind job.part ns) in
    let numbers = ap (λ (u : GameView). u.frames.numbers) here.there ∙ sym (numbers_at c.list.items job.game c.pool) in
    ap (λ (own : ℕ). named own v.frames.numbers) tag ∙ ap (named (frame_tag job.game)) numbers ∙ ap (λ (u : GamesView). names_for u.storage job) is

pub game_set : (games : List GameView) (game : ℕ) (w : GameView) → game < length games → game_at (slice_set games game w) game ≡ w
game_set games game w within = get_or-set_same games game w no_game within

pub lane_set : (games : List GameView) (game : ℕ) (w : GameView) → game < length games → lane_of (lanes_in (slice_set games game w)) game ≡ w.lane
lane_set games game w within = lane_at (slice_set games game w) game ∙ ap (λ (u : GameView). u.lane) (game_set games game w within)

pub names_set : (games : List GameView) (job : JobName) (w : GameView) (pool : Ledger) → job.game < length games → w.frames.tag ≡ frame_tag job.game
    → own_names w job ≡ names_for (storage_in (slice_set games job.game w) pool) job
names_set games job w pool within tag =
    let named : ℕ → List (Option ℕ) → List (ℕ × ℕ) = λ own ns. map (λ n. (own, n)) (job_numbers job.kind job.part ns) in
    let numbers = ap (λ (u : GameView). u.frames.numbers) (sym (game_set games job.game w within)) ∙ sym (numbers_at (slice_set games job.game w) job.game pool) in
    ap (λ (own : ℕ). named own w.frames.numbers) tag ∙ ap (named (frame_tag job.game)) numbers

-- an open stay, with its blocks
pub record IsAtStay (cap : ℕ) {at : ℕ} (c : Inside at) (view : GamesView) (game : ℕ) (v : GameView) : Type 0 where
  pub here : IsThere c view game v
  pub stands : v.lane.is_open ≡ true
  pub row : IsAtRow cap game v c.pool

pub at_open : (cap : ℕ) {at : ℕ} (c : Inside at) (view : GamesView) (game : ℕ) (v : GameView) → IsSound cap c → IsThere c view game v → v.lane.is_open ≡ true
    → IsAtStay cap c view game v
at_open cap c view game v sound here stands =
    record { here = here; stands = stands; row = rw here.there (sound.blocks game here.within (rw (← here.there) stands)) }

-- a stay with a job that is out or may be taken is open
at_busy : (cap : ℕ) {at : ℕ} (c : Inside at) (view : GamesView) (game : ℕ) (v : GameView) → IsSound cap c → IsThere c view game v → is_quiet v.lane ≡ false
    → IsAtStay cap c view game v
at_busy cap c view game v sound here busy =
    let gone = subst (λ (u : GameView). u.lane.is_open ≡ false → is_quiet u.lane ≡ true) (sym here.there) (sound.gone game here.within) in
    at_open cap c view game v sound here (open_busy v.lane gone busy)

pub at_ready : (cap : ℕ) {at : ℕ} (c : Inside at) (view : GamesView) (job : JobName) (v : GameView) → IsSound cap c → IsThere c view job.game v
    → is_ready (lane_of view.lanes job.game) job.kind job.part ≡ true → IsAtStay cap c view job.game v
at_ready cap c view job v sound here ready =
    at_busy cap c view job.game v sound here (busy_ready v.lane job.kind job.part (subst (λ (x : Lane). is_ready x job.kind job.part ≡ true) here.lane ready))

pub at_out : (cap : ℕ) {at : ℕ} (c : Inside at) (view : GamesView) (job : JobName) (v : GameView) (worker : ℕ) → IsSound cap c → IsThere c view job.game v
    → is_out worker (lane_of view.lanes job.game) job.kind job.part ≡ true → IsAtStay cap c view job.game v
at_out cap c view job v worker sound here out =
    at_busy cap c view job.game v sound here (busy_out v.lane worker job.kind job.part (subst (λ (x : Lane). is_out worker x job.kind job.part ≡ true) here.lane out))

pub at_leave : (cap : ℕ) {at : ℕ} (c : Inside at) (view : GamesView) (game : ℕ) (v : GameView) → IsSound cap c → IsThere c view game v
    → may_leave (lane_of view.lanes game) ≡ true → IsAtStay cap c view game v
at_leave cap c view game v sound here may =
    at_open cap c view game v sound here (ap (λ (x : Lane). x.is_open) (sym here.lane) ∙ (and_both (lane_of view.lanes game).is_open (is_quiet (lane_of view.lanes game)) may).0)

-- whether a ticket is the core's own is judged by its stay
pub own_at_stay : (cap : ℕ) {at : ℕ} (c : Inside at) (view : GamesView) (worker : ℕ) (ticket : TicketView) (v : GameView) → IsSound cap c → games_in c ≡ view
    → IsThere c view ticket.input.job.game v → IsOwnTicket v worker ticket ↔ IsOwn view worker ticket
own_at_stay cap c view worker ticket v sound is here =
    let job = ticket.input.job in
    let tag : is_out worker v.lane job.kind job.part ≡ true → v.frames.tag ≡ frame_tag job.game
    = λ out. (at_busy cap c view job.game v sound here (busy_out v.lane worker job.kind job.part out)).row.frame_tag_is in
    let within : nat_lt job.game (length view.lanes) ≡ true
    = lt-ltb _ _ (let less = here.within in let many = many_lanes c.list.items in let same = ap (λ (u : GamesView). length u.lanes) is in omega (arith, less, many, same)) in (
      (λ own.
          let lane = here.lane in
          record {
            out = rw (within, lane, own.own.out) refl;
            input = rw lane own.own.input;
            frames = own.names ∙ names_there c view job v is here (tag own.own.out);
          }),
      (λ own.
          let out = subst (λ (x : Lane). is_out worker x job.kind job.part ≡ true) here.lane (own_out view worker ticket own) in
          record {
            own = record { out = out; input = subst (λ (x : Lane). ticket.input ≡ input_of x worker job) here.lane own.input };
            names = own.frames ∙ sym (names_there c view job v is here (tag out));
          }),
    )

pub same_view : {at : ℕ} (c : Inside at) (game : ℕ) (v w : GameView) (pool : Ledger) → v ≡ game_at c.list.items game → w ≡ v → pool ≡ c.pool
    → games_in (record c { list = with_item c.list game w; pool = pool }) ≡ games_in c
same_view c game v w pool there same pool_is =
    let back : slice_set c.list.items game w ≡ c.list.items = rw (same, there) (set-get_or c.list.items game no_game) in
    rw (back, pool_is) refl

pub handed_view : (cap : ℕ) {at : ℕ} (c : Inside at) (game : ℕ) (command : Command) (v w : GameView) → v ≡ game_at c.list.items game → w ≡ handed_game command v
    → games_in (record c { list = with_item c.list game w }) ≡ after cap (games_in c) (event.Hand game command)
handed_view cap c game command v w there is =
    let games = c.list.items in
    let lane : w.lane ≡ with_waiting command (lane_of (lanes_in games) game) =
    ap (λ (u : GameView). u.lane) is ∙ ap (λ (u : GameView). with_waiting command u.lane) there ∙ ap (with_waiting command) (sym (lane_at games game)) in
    let packings = same_packings games game w (ap (λ (u : GameView). u.packing) is ∙ ap (λ (u : GameView). u.packing) there) in
    let numbers = same_numbers games game w (ap (λ (u : GameView). u.frames.numbers) is ∙ ap (λ (u : GameView). u.frames.numbers) there) in
    let tallies = same_tallies game games v w there (ap (λ (u : GameView). u.frames.tally) is) in
    rw (lanes_set games game w, packings, numbers, tallies, lane) refl

pub handed_blocks : {A B : Type 0} (result : Result A B) (cap : ℕ) (v w : GameView) (command : Command) (pool : Ledger) → OnOk result (w ≡ handed_game command v)
    → OnErr result (w ≡ v) → HasBlocks cap v pool → HasBlocks cap w pool
handed_blocks (Ok value) cap v w command pool handed same has =
    rw handed (record { records = has.records; room = has.room; frames = has.frames; frame_room = has.frame_room; apart = has.apart })
handed_blocks (Err error) cap v w command pool handed same has = rw same has

pub completed_view : (cap : ℕ) {at : ℕ} (c : Inside at) (job : JobName) (v w : GameView) (pool : Ledger) → v ≡ game_at c.list.items job.game → v.tag ≡ record_tag job.game
    → (job.kind ≡ kind.Begin → v.frames.numbers ≡ []) → w ≡ completed_game cap job.kind job.part (next_number c.pool) v → pool ≡ pool_completed cap job.kind v c.pool
    → games_in (record c { list = with_item c.list job.game w; pool = pool }) ≡ games_completed cap (games_in c) job
completed_view cap c job v w pool there tag none is given =
    let games = c.list.items in
    let lane_is : v.lane ≡ lane_of (lanes_in games) job.game = ap (λ (u : GameView). u.lane) there ∙ sym (lane_at games job.game) in
    let lane = completed_lane job.kind cap job.part (next_number c.pool) v w is in
    let storage = completed_storage job.kind cap job.game job.part games c.pool pool v w there tag none is given in
    let tallies = same_tallies job.game games v w there (completed_tally job.kind cap job.part (next_number c.pool) v w is) in
    rw (lanes_set games job.game w, storage, tallies, lane, lane_is) refl

pub taken_view : (cap : ℕ) {at : ℕ} (c : Inside at) (worker : ℕ) (job : JobName) (tally : Option TallyId) (keys : List Key) (v w : GameView) (pool : Ledger)
    → v ≡ game_at c.list.items job.game → v.frames.tag ≡ frame_tag job.game → w ≡ taken_game worker job (next_number c.pool) tally keys v
    → pool ≡ pool_taken job.kind v.frames.tag (next_number c.pool) c.pool
    → games_in (record c { list = with_item c.list job.game w; pool = pool }) ≡ games_taken cap (games_in c) worker job (tallies_in (slice_set c.list.items job.game w))
taken_view cap c worker job tally keys v w pool there tag is drawn =
    let games = c.list.items in
    let lane_is : v.lane ≡ lane_of (lanes_in games) job.game = ap (λ (u : GameView). u.lane) there ∙ sym (lane_at games job.game) in
    let lane = ap (λ (u : GameView). u.lane) is in
    let storage = taken_storage_is job.kind job.game worker job.part (next_number c.pool) games c.pool pool tally keys v w there tag refl is drawn in
    rw (lanes_set games job.game w, storage, lane, lane_is) refl
