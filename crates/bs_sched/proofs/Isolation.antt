-- The isolation law of the lanes after any events.
use Rattle.std.proofs.Common.{◌≡◌, ℕ, ◌+◌, ◌-◌, ◌<◌, ◌≤◌, Bool, true, false, ◌&&◌, if◌then◌else◌, List, [], ◌∷◌, ◌++◌, length, map, refl, sym, ap, subst, ◌∙◌, arith, inl, inr}
use Rattle.std.specs.List.{list_any}
use Rattle.std.specs.Prelude.{not, nat_le, slice_set}
use Rattle.std.proofs.lemmas.Bool.{cases_Bool, cases_lt, cond-true, cond-false, leb-true, and_left, and_right, and_from}
use Rattle.std.proofs.lemmas.List.{append_assoc, append-nil, map_push, get_or_past}
use Rattle.std.proofs.Math.Seq.{map-set_same}
use Rattle.std.proofs.lemmas.List.Sums.{sum_by_push, sum_by-set}
use Rattle.bs_board.proofs.Chains.{and_both}
use Rattle.bs_board.specs.plans.Plan.{GameRow}
use Rattle.bs_registry.specs.Blocks.{blocks_of}
use Rattle.bs_sched.specs.declared.event.Event.{Event}
use Rattle.bs_sched.specs.declared.event.Event.TheVariants as event
use Rattle.bs_sched.specs.Handed.{commands_of}
use Rattle.bs_sched.specs.Isolation.{alone_event, opened_lanes, row_made, lone_lanes, own_events, shared_run, lone_run, accepted, is_accepted, admitted, final_board, final_charge, RunsAlone, commands_in, IsolationLaw}
use Rattle.bs_sched.specs.Lane.{Lane, empty_lane, no_lane, kept_of, goes_on, forked, answered, with_taken, with_put}
use Rattle.bs_sched.specs.Machine.{Setting, lane_of, game_of, row_in, is_admit, is_named, is_enabled, has_name, is_full, blocks_in, open_blocks, lane_after, step, run_of}
use Rattle.bs_sched.proofs.HandedCommands.{commands_after, one_more_event, its_row, row_kept}
use Rattle.bs_sched.proofs.LoneLanes.{lane_or, lone, lane_there, comer, changed, cases_step, goes_alone, IsItsRow, its_row_before, unmoved, accepted_there, accepts, named_lane, others_leave}
use Rattle.bs_sched.proofs.RightRuns.{well_run, well_opened, opened_lane}
use Rattle.bs_fiber.specs.declared.job.JobKind.{JobKind}
use Rattle.bs_fiber.specs.declared.job.JobKind.TheVariants as kind

-- a stay runs alone

-- the core of all stays begins with the stay's own first lane, whether it is in the plan or still
-- to be admitted
begins : (rows : List GameRow) (game : ℕ) (row : GameRow) → IsItsRow row (opened_lanes rows) game → lane_or row (opened_lanes rows) game ≡ empty_lane row
begins rows game row its =
    elim (cases_lt game (length (opened_lanes rows))) [
      | inl here ↦
          let first = opened_lane rows game in
          lane_there row (opened_lanes rows) game here ∙ first ∙ ap empty_lane (sym (ap its_row first) ∙ its here)
      | inr later ↦ get_or_past (opened_lanes rows) game (empty_lane row) later
    ]

module _ (setting : Setting) (rows : List GameRow) (events : List Event) (game : ℕ) where
  its : IsItsRow (row_made setting rows events game) (shared_run setting rows events) game
  its within = refl

  begins_alone : lone (lane_or (row_made setting rows events game) (opened_lanes rows) game) ≡ lone_lanes setting rows events game
  begins_alone =
      ap lone (begins rows game (row_made setting rows events game)
      (its_row_before setting game (row_made setting rows events game) (opened_lanes rows) events its))

  pub runs_alone : game < length (shared_run setting rows events) → RunsAlone setting rows events game
  runs_alone there =
      let row = row_made setting rows events game in
      let own = own_events setting rows events game in
      let goes = goes_alone setting game row (opened_lanes rows) events its in
      let same : lane_of (lone_run setting rows events game) 0 ≡ lane_of (shared_run setting rows events) game
      = ap (λ (ls : List Lane). lane_of (run_of setting ls own) 0) (sym begins_alone)
      ∙ ap (λ (ls : List Lane). lane_of ls 0) goes.1
      ∙ lane_there row (shared_run setting rows events) game there in
      record {
        enabled = rw (← begins_alone) goes.0;
        lane = same;
        records = ap kept_of same;
        board = ap final_board same;
        charge = ap final_charge same;
      }

-- its commands

commands_step : (setting : Setting) (lanes : List Lane) (e : Event) (game : ℕ) → is_accepted setting game lanes e ≡ true
    → commands_of (lane_of (step setting lanes e) game) ≡ commands_of (lane_of lanes game) ++ commands_in (e ∷ [])
commands_step setting lanes e game is =
    let named = accepts setting game lanes e is in
    subst (λ row. commands_of (lane_of (step setting lanes e) row) ≡ commands_of (lane_of lanes row) ++ commands_in (e ∷ [])) named.1
    (ap commands_of (named_lane setting lanes e named.0 (and_both (is_named game e) (is_enabled setting lanes e) is).1) ∙ commands_after (lane_of lanes (game_of e)) e)

commands_alone : (e : Event) → commands_in (alone_event e ∷ []) ≡ commands_in (e ∷ [])
commands_alone (event.Hand game command) = refl
commands_alone (event.Take worker job) = refl
commands_alone (event.Put worker job) = refl
commands_alone (event.Admit row) = refl
commands_alone (event.Leave game) = refl

commands_run : (setting : Setting) (game : ℕ) (row : GameRow) (lanes : List Lane) (events : List Event) → IsItsRow row (run_of setting lanes events) game
    → commands_of (lane_or row (run_of setting lanes events) game) ≡ commands_of (lane_or row lanes game) ++ commands_in (accepted setting game lanes events)
commands_run setting game row lanes [] at = sym (append-nil (commands_of (lane_or row lanes game)))
commands_run setting game row lanes (e ∷ events) at =
    let next = step setting lanes e in
    let own = accepted setting game next events in
    let before = commands_of (lane_or row lanes game) in
    let rest = commands_run setting game row next events at in
    let P : List Event → Type 0 = λ es. commands_of (lane_or row (run_of setting next events) game) ≡ before ++ commands_in es in
    elim (cases_Bool (is_accepted setting game lanes e)) [
      | inl on ↦
          let there = accepted_there setting game row lanes e on in
          let one : commands_of (lane_or row next game) ≡ before ++ commands_in (alone_event e ∷ [])
          = ap commands_of there.1 ∙ commands_step setting lanes e game on
          ∙ ap (λ (x : Lane). commands_of x ++ commands_in (e ∷ [])) (sym there.0) ∙ ap (λ cs. before ++ cs) (sym (commands_alone e)) in
          subst P (sym (cond-true (is_accepted setting game lanes e) (alone_event e ∷ own) own on))
          (rest ∙ ap (λ cs. cs ++ commands_in own) one ∙ append_assoc before (commands_in (alone_event e ∷ [])) (commands_in own)
          ∙ ap (λ cs. before ++ cs) (one_more_event (alone_event e) own))
      | inr off ↦
          subst P (sym (cond-false (is_accepted setting game lanes e) (alone_event e ∷ own) own off))
          (rest ∙ ap (λ (x : Lane). commands_of x ++ commands_in own) (unmoved setting game row lanes e (its_row_before setting game row next events at) off))
    ]

pub keeps_commands : (setting : Setting) (rows : List GameRow) (events : List Event) (game : ℕ) → game < length (shared_run setting rows events)
    → commands_of (lane_of (shared_run setting rows events) game) ≡ commands_in (own_events setting rows events game)
keeps_commands setting rows events game there =
    let row = row_made setting rows events game in
    let own = own_events setting rows events game in
    let its : IsItsRow row (shared_run setting rows events) game = λ _. refl in
    let first = begins rows game row (its_row_before setting game row (opened_lanes rows) events its) in
    ap commands_of (sym (lane_there row (shared_run setting rows events) game there))
    ∙ commands_run setting game row (opened_lanes rows) events its
    ∙ ap (λ (x : Lane). commands_of x ++ commands_in own) first

-- the rows that are made

rows_changed : (lanes : List Lane) (e : Event) → map its_row (slice_set lanes (game_of e) (changed lanes e)) ≡ map its_row lanes
rows_changed lanes e = map-set_same its_row lanes (game_of e) (changed lanes e) no_lane (row_kept (lane_of lanes (game_of e)) e)

pub rows_run : (setting : Setting) (lanes : List Lane) (events : List Event) → map its_row (run_of setting lanes events) ≡ map its_row lanes ++ admitted setting lanes events
rows_run setting lanes [] = sym (append-nil (map its_row lanes))
rows_run setting lanes (e ∷ events) =
    let next = step setting lanes e in
    let later = admitted setting next events in
    let rest = rows_run setting next events in
    let P : List GameRow → Type 0 = λ rs. map its_row (run_of setting next events) ≡ map its_row lanes ++ rs in
    let b = is_admit e && is_enabled setting lanes e in
    elim (cases_step setting lanes e) [
      | inl stays ↦
          subst P (sym (cond-false b (row_in e ∷ later) later (and_right (is_admit e) (is_enabled setting lanes e) stays.off)))
          (rest ∙ ap (λ (ls : List Lane). map its_row ls ++ later) stays.is)
      | inr (inl comes) ↦
          let one : map its_row next ≡ map its_row lanes ++ row_in e ∷ [] = ap (map its_row) comes.is ∙ map_push its_row lanes (comer e) in
          subst P (sym (cond-true b (row_in e ∷ later) later (and_from (is_admit e) (is_enabled setting lanes e) comes.admits comes.on)))
          (rest ∙ ap (λ rs. rs ++ later) one ∙ append_assoc (map its_row lanes) (row_in e ∷ []) later)
      | inr (inr changes) ↦
          subst P (sym (cond-false b (row_in e ∷ later) later (and_left (is_admit e) (is_enabled setting lanes e) changes.there)))
          (rest ∙ ap (λ rs. rs ++ later) (ap (map its_row) changes.is ∙ rows_changed lanes e))
    ]

pub opened_rows : (rows : List GameRow) → map its_row (opened_lanes rows) ≡ rows
opened_rows [] = refl
opened_rows (row ∷ rows) = ap (λ rs. row ∷ rs) (opened_rows rows)

-- the reserved blocks

blocks_taken : (cap : ℕ) (x : Lane) (worker : ℕ) (k : JobKind) (p : ℕ) → blocks_in cap (with_taken worker k p x) ≡ blocks_in cap x
blocks_taken cap x worker kind.Begin p = refl
blocks_taken cap x worker kind.Part p = refl
blocks_taken cap x worker kind.Join p = refl

blocks_begun : (cap : ℕ) (x : Lane) (on : Bool) → blocks_in cap (if on then forked x else answered x) ≡ blocks_in cap x
blocks_begun cap x true = refl
blocks_begun cap x false = refl

blocks_put : (cap : ℕ) (x : Lane) (k : JobKind) (p : ℕ) → blocks_in cap (with_put k p x) ≡ blocks_in cap x
blocks_put cap x kind.Begin p = blocks_begun cap x (goes_on x)
blocks_put cap x kind.Part p = refl
blocks_put cap x kind.Join p = refl

pub blocks_after : (cap : ℕ) (x : Lane) (e : Event) → blocks_in cap (lane_after x e) ≤ blocks_in cap x
blocks_after cap x (event.Hand game command) = omega arith
blocks_after cap x (event.Take worker job) = let same = blocks_taken cap x worker job.kind job.part in omega (arith, same)
blocks_after cap x (event.Put worker job) = let same = blocks_put cap x job.kind job.part in omega (arith, same)
blocks_after cap x (event.Admit row) = omega arith
blocks_after cap x (event.Leave game) = omega arith

pub room_step : (setting : Setting) (lanes : List Lane) (e : Event) → open_blocks setting.cap lanes ≤ setting.blocks → open_blocks setting.cap (step setting lanes e) ≤ setting.blocks
room_step setting lanes e room =
    elim (cases_step setting lanes e) [
      | inl stays ↦ rw stays.is room
      | inr (inl comes) ↦
          let row = row_in e in
          let more : open_blocks setting.cap (lanes ++ comer e ∷ []) ≡ open_blocks setting.cap lanes + blocks_of setting.cap row
          = sum_by_push (blocks_in setting.cap) lanes (comer e) in
          let tests = and_both (not (is_full lanes)) (nat_le (blocks_of setting.cap row) (setting.blocks - open_blocks setting.cap lanes))
          (and_both (not (list_any (has_name row) lanes)) _ comes.may).1 in
          let fits : blocks_of setting.cap row ≤ setting.blocks - open_blocks setting.cap lanes = leb-true _ _ tests.1 in
          rw comes.is (omega (arith, more, fits, room))
      | inr (inr changes) ↦
          let sum = sum_by-set (blocks_in setting.cap) lanes (game_of e) (changed lanes e) no_lane changes.met.within in
          let less = blocks_after setting.cap (lane_of lanes (game_of e)) e in
          rw changes.is (omega (arith, sum, less, room))
    ]

pub room_run : (setting : Setting) (lanes : List Lane) (events : List Event) → open_blocks setting.cap lanes ≤ setting.blocks → open_blocks setting.cap (run_of setting lanes events) ≤ setting.blocks
room_run setting lanes [] room = room
room_run setting lanes (e ∷ events) room = room_run setting (step setting lanes e) events (room_step setting lanes e room)

-- the law

pub isolation_law : IsolationLaw
isolation_law setting rows events plan room fit =
    record {
      made = rows_run setting (opened_lanes rows) events ∙ ap (λ rs. rs ++ admitted setting (opened_lanes rows) events) (opened_rows rows);
      room = room_run setting (opened_lanes rows) events room;
      stays = λ game there. record {
        alone = runs_alone setting rows events game there;
        others = others_leave setting (shared_run setting rows events) game there;
        course = record {
          commands = keeps_commands setting rows events game there;
          well = well_run setting (opened_lanes rows) events fit (well_opened rows plan) game there;
        };
      };
    }
