-- No two open stays have one name.
use Rattle.std.proofs.Common.{◌≡◌, ◌≢◌, ℕ, zero, suc, ◌-◌, ◌<◌, ◌≤◌, true, false, ◌&&◌, not, if◌then◌else◌, List, [], ◌∷◌, ◌++◌, length, refl, sym, ap, ◌∙◌, arith, inl, inr}
use Rattle.std.specs.Prelude.{nat_eq, nat_lt, nat_le, count_by, slice_set, slice_index_or}
use Rattle.std.specs.List.{list_any}
use Rattle.std.proofs.lemmas.Bool.{cases_Bool, cases_eq, cases_lt, not-true, not-false, eq-eqb, ltb-true}
use Rattle.std.proofs.lemmas.Grind.{get_or-set_at}
use Rattle.std.proofs.lemmas.List.{length-map, length-set, length_push, get_or_append_left, get_or_push, get_or-set_other}
use Rattle.std.proofs.lemmas.List.Folds.{list_any_at}
use Rattle.std.proofs.lemmas.List.Sums.{sum_by_push, sum_by-set, count_by-le-length}
use Rattle.bs_board.proofs.Chains.{and_both}
use Rattle.bs_board.specs.declared.limits.TheConstants.{MOST_ROWS}
use Rattle.bs_board.specs.plans.Plan.{GameRow, row_of, IsFitPlan, have_distinct_names}
use Rattle.bs_board.specs.Texts.{is_same_text}
use Rattle.bs_registry.specs.Blocks.{blocks_of}
use Rattle.bs_sched.specs.declared.event.Event.{Event}
use Rattle.bs_sched.specs.declared.event.Event.TheVariants as event
use Rattle.bs_sched.specs.Registry.{AreKnownApart, NamesLaw}
use Rattle.bs_sched.specs.Isolation.{opened_lanes}
use Rattle.bs_sched.specs.Lane.{Lane, empty_lane, no_lane}
use Rattle.bs_registry.specs.declared.blocks.TheConstants.{MOST_STAYS}
use Rattle.bs_sched.specs.Machine.{Setting, lane_of, game_of, row_in, may_admit, has_name, is_full, open_blocks, lane_after, step, run_of}
use Rattle.bs_sched.proofs.LoneLanes.{comer, changed, cases_step, keeps_row}
use Rattle.bs_sched.proofs.RightRuns.{open_taken, open_put, opened_lane}

same_self : (text : List ℕ) → is_same_text text text ≡ true
same_self [] = refl
same_self (c ∷ text) = let here : nat_eq c c ≡ true = eq-eqb c c refl in rw here (same_self text)

-- a stay that is open after an event was open before, or is admitted by it

abbrev one : Lane → ℕ
one x = if x.is_open then 1 else 0

open_once : (x : Lane) (e : Event) → (lane_after x e).is_open ≡ true → x.is_open ≡ true
open_once x (event.Hand game command) stands = stands
open_once x (event.Take worker job) stands = sym (open_taken x worker job.kind job.part) ∙ stands
open_once x (event.Put worker job) stands = sym (open_put x job.kind job.part) ∙ stands
open_once x (event.Admit row) stands = stands
open_once x (event.Leave game) stands = let wrong : false ≡ true = stands in absurd cc

less_open : (x y : Lane) → (y.is_open ≡ true → x.is_open ≡ true) → one y ≤ one x
less_open x y before =
    elim (cases_Bool y.is_open) [
      | inl stands ↦ rw (stands, before stands) (omega arith)
      | inr shut ↦ rw shut (omega arith)
    ]

open_before : (setting : Setting) (lanes : List Lane) (e : Event) (game : ℕ) → game < length lanes → (lane_of (step setting lanes e) game).is_open ≡ true
    → (lane_of lanes game).is_open ≡ true
open_before setting lanes e game within stands =
    elim (cases_step setting lanes e) [
      | inl stays ↦ rw stays.is at stands
      | inr (inl comes) ↦
          let now = rw comes.is at stands in
          rw (get_or_append_left lanes (comer e ∷ []) no_lane game within) at now
      | inr (inr changes) ↦
          let now = rw changes.is at stands in
          elim (cases_eq game (game_of e)) [
            | inl here ↦
                rw here (open_once (lane_of lanes (game_of e)) e
                (rw (get_or-set_at lanes (game_of e) game (changed lanes e) no_lane here changes.met.within) at now))
            | inr other ↦ rw (get_or-set_other lanes (game_of e) game (changed lanes e) no_lane other) at now
          ]
    ]

-- a name that no open stay has

not_named : (row : GameRow) (lanes : List Lane) (game : ℕ) → list_any (has_name row) lanes ≡ false → game < length lanes → (lane_of lanes game).is_open ≡ true
    → row.game ≢ (lane_of lanes game).row.game
not_named row lanes game none within stands same =
    let x = lane_of lanes game in
    let text : is_same_text row.game x.row.game ≡ true = rw (← same) (same_self row.game) in
    let named : has_name row x ≡ true = rw (stands, text) refl in
    let some : list_any (has_name row) lanes ≡ true = list_any_at (has_name row) lanes game no_lane within named in
    let wrong : true ≡ false = sym some ∙ none in
    cc

known_comes : (setting : Setting) (lanes : List Lane) (row : GameRow) → AreKnownApart lanes → may_admit setting lanes row ≡ true → AreKnownApart (lanes ++ empty_lane row ∷ [])
known_comes setting lanes row flattened may =
    let y = empty_lane row in
    let long = length_push lanes y in
    let sum = sum_by_push one lanes y in
    let free = and_both (not (list_any (has_name row) lanes)) (not (is_full lanes) && nat_le (blocks_of setting.cap row) (setting.blocks - open_blocks setting.cap lanes)) may in
    let none = not-true (list_any (has_name row) lanes) free.0 in
    let not_full = not-true (is_full lanes) (and_both (not (is_full lanes)) (nat_le (blocks_of setting.cap row) (setting.blocks - open_blocks setting.cap lanes)) free.1).0 in
    let room = and_both (nat_lt (count_by (λ (x : Lane). x.is_open) lanes) MOST_ROWS) (nat_lt (length lanes) MOST_STAYS) (not-false _ not_full) in
    let few = ltb-true (count_by (λ (x : Lane). x.is_open) lanes) MOST_ROWS room.0 in
    let made = ltb-true (length lanes) MOST_STAYS room.1 in
    let before : (game : ℕ) → game < length lanes → lane_of (lanes ++ y ∷ []) game ≡ lane_of lanes game = λ game less. get_or_append_left lanes (y ∷ []) no_lane game less in
    let last : (game : ℕ) → length lanes ≤ game → game < length (lanes ++ y ∷ []) → lane_of (lanes ++ y ∷ []) game ≡ y
    = λ game past within. get_or_push lanes y no_lane game (omega (arith, long, past, within)) in
    record {
      names = λ game other here there differ first second.
          elim (cases_lt game (length lanes)) [
            | inl less ↦
                elim (cases_lt other (length lanes)) [
                  | inl less' ↦ rw (before game less, before other less') (flattened.names game other less less' differ (rw (before game less) at first) (rw (before other less') at second))
                  | inr past' ↦
                      rw (before game less, last other past' there)
                      (λ same. not_named row lanes game none less (rw (before game less) at first) (sym same))
                ]
            | inr past ↦
                elim (cases_lt other (length lanes)) [
                  | inl less' ↦ rw (last game past here, before other less') (not_named row lanes other none less' (rw (before other less') at second))
                  | inr past' ↦ absurd (differ (omega (arith, long, past, past', here, there)))
                ]
          ];
      few = omega (arith, sum, few);
      made = omega (arith, long, made);
    }

known_step : (setting : Setting) (lanes : List Lane) (e : Event) → AreKnownApart lanes → AreKnownApart (step setting lanes e)
known_step setting lanes e flattened =
    elim (cases_step setting lanes e) [
      | inl stays ↦ rw stays.is flattened
      | inr (inl comes) ↦ rw comes.is (known_comes setting lanes (row_in e) flattened comes.may)
      | inr (inr changes) ↦
          let same = ap length changes.is ∙ length-set lanes (game_of e) (changed lanes e) in
          let sum = sum_by-set one lanes (game_of e) (changed lanes e) no_lane changes.met.within in
          let less = less_open (lane_of lanes (game_of e)) (changed lanes e) (open_once (lane_of lanes (game_of e)) e) in
          let count : count_by (λ (x : Lane). x.is_open) (step setting lanes e) ≡ count_by (λ (x : Lane). x.is_open) (slice_set lanes (game_of e) (changed lanes e))
          = ap (count_by (λ (x : Lane). x.is_open)) changes.is in
          let few = flattened.few in
          let made = flattened.made in
          record {
            names = λ game other here there differ first second.
                let here_before : game < length lanes = omega (arith, same, here) in
                let there_before : other < length lanes = omega (arith, same, there) in
                rw (ap (λ (r : GameRow). r.game) (keeps_row setting lanes e game here_before), ap (λ (r : GameRow). r.game) (keeps_row setting lanes e other there_before))
                (flattened.names game other here_before there_before differ (open_before setting lanes e game here_before first) (open_before setting lanes e other there_before second));
            few = omega (arith, count, sum, less, few);
            made = omega (arith, same, made);
          }
    ]

known_run : (setting : Setting) (lanes : List Lane) (events : List Event) → AreKnownApart lanes → AreKnownApart (run_of setting lanes events)
known_run setting lanes [] flattened = flattened
known_run setting lanes (e ∷ events) flattened = known_run setting (step setting lanes e) events (known_step setting lanes e flattened)

-- a newly opened core

distinct_rows : (rows : List GameRow) → have_distinct_names rows ≡ true → (i j : ℕ) (d : GameRow) → i < j → j < length rows
    → (slice_index_or rows i d).game ≢ (slice_index_or rows j d).game
distinct_rows [] distinct i j d less within = absurd (omega (arith, within))
distinct_rows (row ∷ rows) distinct zero zero d less within = absurd (omega (arith, less))
distinct_rows (row ∷ rows) distinct zero (suc j) d less within = λ same.
    let none : list_any (λ (s : GameRow). is_same_text row.game s.game) rows ≡ false
    = not-true _ (and_both (not (list_any (λ (s : GameRow). is_same_text row.game s.game) rows)) (have_distinct_names rows) distinct).0 in
    let text : is_same_text row.game (slice_index_or rows j d).game ≡ true = rw (← same) (same_self row.game) in
    let some : list_any (λ (s : GameRow). is_same_text row.game s.game) rows ≡ true
    = list_any_at (λ (s : GameRow). is_same_text row.game s.game) rows j d (omega (arith, within)) text in
    let wrong : true ≡ false = sym some ∙ none in
    cc
distinct_rows (row ∷ rows) distinct (suc i) zero d less within = absurd (omega (arith, less))
distinct_rows (row ∷ rows) distinct (suc i) (suc j) d less within =
    distinct_rows rows (and_both (not (list_any (λ (s : GameRow). is_same_text row.game s.game) rows)) (have_distinct_names rows) distinct).1 i j d
    (omega (arith, less)) (omega (arith, within))

known_opened : (rows : List GameRow) → IsFitPlan rows → AreKnownApart (opened_lanes rows)
known_opened rows plan =
    let many : length (opened_lanes rows) ≡ length rows = length-map rows empty_lane in
    let d = row_of [] 0 in
    let count = count_by-le-length (λ (x : Lane). x.is_open) (opened_lanes rows) in
    let few = plan.few in
    record {
      names = λ game other here there differ _ _.
          rw (opened_lane rows game, opened_lane rows other)
          (elim (cases_lt game other) [
            | inl less ↦ distinct_rows rows plan.distinct game other d less (omega (arith, there, many))
            | inr past ↦ λ same. distinct_rows rows plan.distinct other game d (omega (arith, past, differ)) (omega (arith, here, many)) (sym same)
          ]);
      few = omega (arith, count, many, few);
      made = omega (arith, many, few);
    }

pub names_law : NamesLaw
names_law setting plan events fit = known_run setting (opened_lanes plan) events (known_opened plan fit)
