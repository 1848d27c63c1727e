-- The lane of a stay changes in the same way in a core of its own.
use Rattle.std.proofs.Common.{◌≡◌, ◌≢◌, ℕ, ◌<◌, ◌≤◌, Bool, true, false, ◌||◌, List, [], ◌∷◌, ◌++◌, length, refl, sym, ap, subst, ◌∙◌, arith, inl, inr}
use Rattle.std.specs.Prelude.{◌⊎◌, nat_eq, nat_le, slice_index_or, slice_set}
use Rattle.std.proofs.lemmas.Bool.{cases_Bool, cases_eq, cases_order, cond-true, cond-false, ltb-true, eqb-true, eqb-false, not-true, and_from}
use Rattle.std.proofs.lemmas.List.{get_or-set_other, get_or-set_same, get_or_append_left, get_or_push, get_or_past, get_or_default, length-set, length_push}
use Rattle.std.proofs.lemmas.List.Folds.{list_any_at}
use Rattle.bs_board.proofs.Chains.{and_both}
use Rattle.bs_board.specs.plans.Plan.{GameRow}
use Rattle.bs_sched.specs.declared.event.Event.{Event}
use Rattle.bs_sched.specs.declared.event.Event.TheVariants as event
use Rattle.bs_sched.specs.Lane.{Lane, empty_lane, no_lane, occupies}
use Rattle.bs_sched.specs.Machine.{Setting, lane_of, game_of, row_in, is_admit, is_named, is_busy, is_allowed, has_hands, may_admit, is_enabled, is_enabled_there, lane_after, lane_effect, step, run_of}
use Rattle.bs_sched.specs.Isolation.{alone_event, is_accepted, accepted, are_enabled, OthersLeave}
use Rattle.bs_sched.proofs.HandedCommands.{its_row, row_kept}

-- the core of one lane alone
abbrev pub lone : Lane → List Lane
lone x = x ∷ []

-- the lane of a stay of that row; before its admission, the lane that it begins with
abbrev pub lane_or : GameRow → List Lane → ℕ → Lane
lane_or row lanes game = slice_index_or lanes game (empty_lane row)

pub lane_there : (row : GameRow) (lanes : List Lane) (game : ℕ) → game < length lanes → lane_or row lanes game ≡ lane_of lanes game
lane_there row lanes game within = get_or_default lanes game (empty_lane row) no_lane within

-- the stay that an event names

pub named_is : (game : ℕ) (e : Event) → is_named game e ≡ true → (is_admit e ≡ false) × (game_of e ≡ game)
named_is game e named =
    let both = and_both _ _ named in
    (not-true (is_admit e) both.0, eqb-true _ _ both.1)

pub named_not : (game : ℕ) (e : Event) → is_named game e ≡ false → is_admit e ≡ false → game_of e ≢ game
named_not game e not_named there =
    let other : nat_eq (game_of e) game ≡ false = rw there at not_named in
    eqb-false (game_of e) game other

-- which events are enabled

pub enabled_there : (setting : Setting) (lanes : List Lane) (e : Event) → is_admit e ≡ false → is_enabled setting lanes e ≡ is_enabled_there setting.workers lanes e
enabled_there setting lanes e there = cond-false (is_admit e) (may_admit setting lanes (row_in e)) (is_enabled_there setting.workers lanes e) there

pub enabled_admit : (setting : Setting) (lanes : List Lane) (e : Event) → is_admit e ≡ true → is_enabled setting lanes e ≡ may_admit setting lanes (row_in e)
enabled_admit setting lanes e comes = cond-true (is_admit e) (may_admit setting lanes (row_in e)) (is_enabled_there setting.workers lanes e) comes

pub record IsMet (setting : Setting) (lanes : List Lane) (e : Event) : Type 0 where
  pub within : game_of e < length lanes
  pub allowed : is_allowed (lane_of lanes (game_of e)) e ≡ true
  pub hands : has_hands setting.workers lanes e ≡ true

pub met : (setting : Setting) (lanes : List Lane) (e : Event) → is_admit e ≡ false → is_enabled setting lanes e ≡ true → IsMet setting lanes e
met setting lanes e there on =
    let here : is_enabled_there setting.workers lanes e ≡ true = sym (enabled_there setting lanes e there) ∙ on in
    let both = and_both _ _ here in
    let tests = and_both _ _ both.1 in
    record { within = ltb-true _ _ both.0; allowed = tests.0; hands = tests.1 }

-- the event changes the lane in the same way there

allowed_alone : (x : Lane) (e : Event) → is_allowed x (alone_event e) ≡ is_allowed x e
allowed_alone x (event.Hand game command) = refl
allowed_alone x (event.Take worker job) = refl
allowed_alone x (event.Put worker job) = refl
allowed_alone x (event.Admit row) = refl
allowed_alone x (event.Leave game) = refl

after_alone : (x : Lane) (e : Event) → lane_after x (alone_event e) ≡ lane_after x e
after_alone x (event.Hand game command) = refl
after_alone x (event.Take worker job) = refl
after_alone x (event.Put worker job) = refl
after_alone x (event.Admit row) = refl
after_alone x (event.Leave game) = refl

row_alone : (e : Event) → game_of (alone_event e) ≡ 0
row_alone (event.Hand game command) = refl
row_alone (event.Take worker job) = refl
row_alone (event.Put worker job) = refl
row_alone (event.Admit row) = refl
row_alone (event.Leave game) = refl

comes_alone : (e : Event) → is_admit (alone_event e) ≡ is_admit e
comes_alone (event.Hand game command) = refl
comes_alone (event.Take worker job) = refl
comes_alone (event.Put worker job) = refl
comes_alone (event.Admit row) = refl
comes_alone (event.Leave game) = refl

-- a worker without a job in any stay has none in this one

or_false : (b : Bool) → (b || false) ≡ b
or_false true = refl
or_false false = refl

free_of : (worker game : ℕ) (lanes : List Lane) → game < length lanes → is_busy worker lanes ≡ false → occupies worker (lane_of lanes game) ≡ false
free_of worker game lanes within free =
    elim (cases_Bool (occupies worker (lane_of lanes game))) [
      | inl busy ↦
          let some : is_busy worker lanes ≡ true = list_any_at (occupies worker) lanes game no_lane within busy in
          let wrong : true ≡ false = sym some ∙ free in
          cc
      | inr idle ↦ idle
    ]

free_alone : (worker game : ℕ) (lanes : List Lane) → game < length lanes → is_busy worker lanes ≡ false → is_busy worker (lone (lane_of lanes game)) ≡ false
free_alone worker game lanes within free = or_false (occupies worker (lane_of lanes game)) ∙ free_of worker game lanes within free

hands_alone : (setting : Setting) (game : ℕ) (lanes : List Lane) (e : Event) → game < length lanes → has_hands setting.workers lanes e ≡ true
    → has_hands setting.workers (lone (lane_of lanes game)) (alone_event e) ≡ true
hands_alone setting game lanes (event.Hand row command) within has = refl
hands_alone setting game lanes (event.Take worker job) within has =
    let both = and_both _ _ has in
    let flattened : nat_le worker setting.workers ≡ true = both.0 in
    let free : is_busy worker (lone (lane_of lanes game)) ≡ false = free_alone worker game lanes within (not-true (is_busy worker lanes) both.1) in
    rw (flattened, free) refl
hands_alone setting game lanes (event.Put worker job) within has = refl
hands_alone setting game lanes (event.Admit row) within has = refl
hands_alone setting game lanes (event.Leave row) within has = refl

-- an event that a stay accepts
pub accepts : (setting : Setting) (game : ℕ) (lanes : List Lane) (e : Event) → is_accepted setting game lanes e ≡ true
    → (is_admit e ≡ false) × (game_of e ≡ game) × IsMet setting lanes e
accepts setting game lanes e is =
    let both = and_both _ _ is in
    let named = named_is game e both.0 in
    (named.0, named.1, met setting lanes e named.0 both.1)

pub enabled_alone : (setting : Setting) (game : ℕ) (lanes : List Lane) (e : Event) → is_accepted setting game lanes e ≡ true
    → is_enabled setting (lone (lane_of lanes game)) (alone_event e) ≡ true
enabled_alone setting game lanes e is =
    let named = accepts setting game lanes e is in
    let here = named.1 in
    let within : game < length lanes = let less = named.2.within in omega (arith, less, here) in
    let allowed : is_allowed (lane_of lanes game) (alone_event e) ≡ true
    = allowed_alone (lane_of lanes game) e ∙ ap (λ row. is_allowed (lane_of lanes row) e) (sym here) ∙ named.2.allowed in
    let hands : has_hands setting.workers (lone (lane_of lanes game)) (alone_event e) ≡ true = hands_alone setting game lanes e within named.2.hands in
    let there : is_enabled_there setting.workers (lone (lane_of lanes game)) (alone_event e) ≡ true = rw (row_alone e, allowed, hands) refl in
    enabled_there setting (lone (lane_of lanes game)) (alone_event e) (comes_alone e ∙ named.0) ∙ there

-- one event

pub step_enabled : (setting : Setting) (lanes : List Lane) (e : Event) → is_enabled setting lanes e ≡ true → step setting lanes e ≡ lane_effect lanes e
step_enabled setting lanes e is = cond-true (is_enabled setting lanes e) (lane_effect lanes e) lanes is

pub step_refused : (setting : Setting) (lanes : List Lane) (e : Event) → is_enabled setting lanes e ≡ false → step setting lanes e ≡ lanes
step_refused setting lanes e is = cond-false (is_enabled setting lanes e) (lane_effect lanes e) lanes is

abbrev pub comer : Event → Lane
comer e = empty_lane (row_in e)

abbrev pub changed : List Lane → Event → Lane
changed lanes e = lane_after (lane_of lanes (game_of e)) e

pub effect_there : (lanes : List Lane) (e : Event) → is_admit e ≡ false → lane_effect lanes e ≡ slice_set lanes (game_of e) (changed lanes e)
effect_there lanes e there = cond-false (is_admit e) (lanes ++ comer e ∷ []) (slice_set lanes (game_of e) (changed lanes e)) there

pub effect_admit : (lanes : List Lane) (e : Event) → is_admit e ≡ true → lane_effect lanes e ≡ lanes ++ comer e ∷ []
effect_admit lanes e comes = cond-true (is_admit e) (lanes ++ comer e ∷ []) (slice_set lanes (game_of e) (changed lanes e)) comes

-- Each step is one of three.
pub record Stays (setting : Setting) (lanes : List Lane) (e : Event) : Type 0 where
  pub off : is_enabled setting lanes e ≡ false
  pub is : step setting lanes e ≡ lanes

pub record Comes (setting : Setting) (lanes : List Lane) (e : Event) : Type 0 where
  pub admits : is_admit e ≡ true
  pub on : is_enabled setting lanes e ≡ true
  pub may : may_admit setting lanes (row_in e) ≡ true
  pub is : step setting lanes e ≡ lanes ++ comer e ∷ []

pub record Changes (setting : Setting) (lanes : List Lane) (e : Event) : Type 0 where
  pub there : is_admit e ≡ false
  pub on : is_enabled setting lanes e ≡ true
  pub met : IsMet setting lanes e
  pub is : step setting lanes e ≡ slice_set lanes (game_of e) (changed lanes e)

pub cases_step : (setting : Setting) (lanes : List Lane) (e : Event) → Stays setting lanes e ⊎ (Comes setting lanes e ⊎ Changes setting lanes e)
cases_step setting lanes e =
    elim (cases_Bool (is_enabled setting lanes e)) [
      | inl on ↦
          elim (cases_Bool (is_admit e)) [
            | inl comes ↦
                inr (inl (record {
                  admits = comes;
                  on = on;
                  may = sym (enabled_admit setting lanes e comes) ∙ on;
                  is = step_enabled setting lanes e on ∙ effect_admit lanes e comes;
                }))
            | inr there ↦
                inr (inr (record {
                  there = there;
                  on = on;
                  met = met setting lanes e there on;
                  is = step_enabled setting lanes e on ∙ effect_there lanes e there;
                }))
          ]
      | inr off ↦ inl (record { off = off; is = step_refused setting lanes e off })
    ]

pub grows : (setting : Setting) (lanes : List Lane) (e : Event) → length lanes ≤ length (step setting lanes e)
grows setting lanes e =
    elim (cases_step setting lanes e) [
      | inl stays ↦ let same = ap length stays.is in omega (arith, same)
      | inr (inl comes) ↦ let more = ap length comes.is ∙ length_push lanes (comer e) in omega (arith, more)
      | inr (inr changes) ↦ let same = ap length changes.is ∙ length-set lanes (game_of e) (changed lanes e) in omega (arith, same)
    ]

-- the lane that the event names
pub named_lane : (setting : Setting) (lanes : List Lane) (e : Event) → is_admit e ≡ false → is_enabled setting lanes e ≡ true
    → lane_of (step setting lanes e) (game_of e) ≡ changed lanes e
named_lane setting lanes e there on =
    ap (λ (ls : List Lane). lane_of ls (game_of e)) (step_enabled setting lanes e on ∙ effect_there lanes e there)
    ∙ get_or-set_same lanes (game_of e) (changed lanes e) no_lane (met setting lanes e there on).within

-- each other lane
pub others_leave : (setting : Setting) (lanes : List Lane) (game : ℕ) → game < length lanes → OthersLeave setting lanes game
others_leave setting lanes game within e other =
    elim (cases_step setting lanes e) [
      | inl stays ↦ ap (λ (ls : List Lane). lane_of ls game) stays.is
      | inr (inl comes) ↦ ap (λ (ls : List Lane). lane_of ls game) comes.is ∙ get_or_append_left lanes (comer e ∷ []) no_lane game within
      | inr (inr changes) ↦
          ap (λ (ls : List Lane). lane_of ls game) changes.is
          ∙ get_or-set_other lanes (game_of e) game (changed lanes e) no_lane (λ same. named_not game e other changes.there (sym same))
    ]

moved_alone : (setting : Setting) (game : ℕ) (lanes : List Lane) (e : Event) → is_accepted setting game lanes e ≡ true
    → step setting (lone (lane_of lanes game)) (alone_event e) ≡ lone (lane_of (step setting lanes e) game)
moved_alone setting game lanes e is =
    let both = and_both _ _ is in
    let named = accepts setting game lanes e is in
    let here = named.1 in
    let x = lane_of lanes game in
    let e' = alone_event e in
    let shared : lane_of (step setting lanes e) game ≡ lane_after x e
    = subst (λ row. lane_of (step setting lanes e) row ≡ lane_after (lane_of lanes row) e) here (named_lane setting lanes e named.0 both.1) in
    let alone : step setting (lone x) e' ≡ slice_set (lone x) (game_of e') (changed (lone x) e')
    = step_enabled setting (lone x) e' (enabled_alone setting game lanes e is) ∙ effect_there (lone x) e' (comes_alone e ∙ named.0) in
    let effect : slice_set (lone x) (game_of e') (changed (lone x) e') ≡ lane_after x e' ∷ [] = rw (row_alone e) refl in
    alone ∙ effect ∙ ap (λ y. y ∷ []) (after_alone x e ∙ sym shared)

-- The row of a stay does not change.

pub keeps_row : (setting : Setting) (lanes : List Lane) (e : Event) (game : ℕ) → game < length lanes → its_row (lane_of (step setting lanes e) game) ≡ its_row (lane_of lanes game)
keeps_row setting lanes e game within =
    elim (cases_step setting lanes e) [
      | inl stays ↦ ap (λ (ls : List Lane). its_row (lane_of ls game)) stays.is
      | inr (inl comes) ↦
          ap (λ (ls : List Lane). its_row (lane_of ls game)) comes.is ∙ ap its_row (get_or_append_left lanes (comer e ∷ []) no_lane game within)
      | inr (inr changes) ↦
          elim (cases_eq (game_of e) game) [
            | inl here ↦
                subst (λ row. its_row (lane_of (step setting lanes e) row) ≡ its_row (lane_of lanes row)) here
                (ap its_row (named_lane setting lanes e changes.there changes.on) ∙ row_kept (lane_of lanes (game_of e)) e)
            | inr other ↦
                ap its_row (ap (λ (ls : List Lane). lane_of ls game) changes.is
                ∙ get_or-set_other lanes (game_of e) game (changed lanes e) no_lane (λ same. other (sym same)))
          ]
    ]

pub row_of_run : (setting : Setting) (lanes : List Lane) (events : List Event) (game : ℕ) → game < length lanes
    → its_row (lane_of (run_of setting lanes events) game) ≡ its_row (lane_of lanes game)
row_of_run setting lanes [] game within = refl
row_of_run setting lanes (e ∷ events) game within =
    let more = grows setting lanes e in
    row_of_run setting (step setting lanes e) events game (omega (arith, more)) ∙ keeps_row setting lanes e game within

-- An event that is not accepted leaves the lane unchanged, also before the stay exists, and when it
-- is admitted.

-- if the stay exists, it has that row
abbrev pub IsItsRow : GameRow → List Lane → ℕ → Type 0
IsItsRow row lanes game = game < length lanes → its_row (lane_of lanes game) ≡ row

pub unmoved : (setting : Setting) (game : ℕ) (row : GameRow) (lanes : List Lane) (e : Event) → IsItsRow row (step setting lanes e) game
    → is_accepted setting game lanes e ≡ false → lane_or row (step setting lanes e) game ≡ lane_or row lanes game
unmoved setting game row lanes e its not_accepted =
    elim (cases_step setting lanes e) [
      | inl stays ↦ ap (λ (ls : List Lane). lane_or row ls game) stays.is
      | inr (inl comes) ↦
          let more = ap length comes.is ∙ length_push lanes (comer e) in
          ap (λ (ls : List Lane). lane_or row ls game) comes.is
          ∙ elim (cases_order game (length lanes)) [
            | inl last ↦
                let within : game < length (step setting lanes e) = omega (arith, more, last) in
                let is : lane_of (step setting lanes e) game ≡ comer e
                = ap (λ (ls : List Lane). lane_of ls game) comes.is ∙ get_or_push lanes (comer e) no_lane game (sym last) in
                let row_is : row_in e ≡ row = sym (ap its_row is) ∙ its within in
                get_or_push lanes (comer e) (empty_lane row) game (sym last)
                ∙ ap empty_lane row_is
                ∙ sym (get_or_past lanes game (empty_lane row) (omega (arith, last)))
            | inr (inl less) ↦ get_or_append_left lanes (comer e ∷ []) (empty_lane row) game less
            | inr (inr past) ↦
                let long = length_push lanes (comer e) in
                get_or_past (lanes ++ comer e ∷ []) game (empty_lane row) (omega (arith, long, past))
                ∙ sym (get_or_past lanes game (empty_lane row) (omega (arith, past)))
          ]
      | inr (inr changes) ↦
          let other : is_named game e ≡ false
          = elim (cases_Bool (is_named game e)) [
            | inl named ↦
                let wrong : is_enabled setting lanes e ≡ false = rw named at not_accepted in
                let both_ways : true ≡ false = sym changes.on ∙ wrong in
                cc
            | inr not_named ↦ not_named
          ] in
          ap (λ (ls : List Lane). lane_or row ls game) changes.is
          ∙ get_or-set_other lanes (game_of e) game (changed lanes e) (empty_lane row) (λ same. named_not game e other changes.there (sym same))
    ]

-- all events

pub grows_run : (setting : Setting) (lanes : List Lane) (events : List Event) → length lanes ≤ length (run_of setting lanes events)
grows_run setting lanes [] = omega arith
grows_run setting lanes (e ∷ events) =
    let first = grows setting lanes e in
    let rest = grows_run setting (step setting lanes e) events in
    omega (arith, first, rest)

pub its_row_before : (setting : Setting) (game : ℕ) (row : GameRow) (lanes : List Lane) (events : List Event) → IsItsRow row (run_of setting lanes events) game
    → IsItsRow row lanes game
its_row_before setting game row lanes events its within =
    let more = grows_run setting lanes events in
    sym (row_of_run setting lanes events game within) ∙ its (omega (arith, more, within))

-- of an event that is accepted
pub accepted_there : (setting : Setting) (game : ℕ) (row : GameRow) (lanes : List Lane) (e : Event) → is_accepted setting game lanes e ≡ true
    → (lane_or row lanes game ≡ lane_of lanes game) × (lane_or row (step setting lanes e) game ≡ lane_of (step setting lanes e) game)
accepted_there setting game row lanes e is =
    let named = accepts setting game lanes e is in
    let here = named.1 in
    let less = named.2.within in
    let more = grows setting lanes e in
    (lane_there row lanes game (omega (arith, less, here)), lane_there row (step setting lanes e) game (omega (arith, less, here, more)))

abbrev pub GoesAlone : Setting → ℕ → GameRow → List Lane → List Event → List Event → Type 0
GoesAlone setting game row lanes events own =
    (are_enabled setting (lone (lane_or row lanes game)) own ≡ true)
    × (run_of setting (lone (lane_or row lanes game)) own ≡ lone (lane_or row (run_of setting lanes events) game))

goes_on_alone : (setting : Setting) (game : ℕ) (row : GameRow) (lanes : List Lane) (e : Event) (events own : List Event) → is_accepted setting game lanes e ≡ true
    → GoesAlone setting game row (step setting lanes e) events own → GoesAlone setting game row lanes (e ∷ events) (alone_event e ∷ own)
goes_on_alone setting game row lanes e events own is rest =
    let there = accepted_there setting game row lanes e is in
    let start : lone (lane_or row lanes game) ≡ lone (lane_of lanes game) = ap lone there.0 in
    let same : step setting (lone (lane_or row lanes game)) (alone_event e) ≡ lone (lane_or row (step setting lanes e) game)
    = ap (λ (ls : List Lane). step setting ls (alone_event e)) start ∙ moved_alone setting game lanes e is ∙ ap lone (sym there.1) in
    let on : is_enabled setting (lone (lane_or row lanes game)) (alone_event e) ≡ true
    = ap (λ (ls : List Lane). is_enabled setting ls (alone_event e)) start ∙ enabled_alone setting game lanes e is in
    let later : are_enabled setting (step setting (lone (lane_or row lanes game)) (alone_event e)) own ≡ true
    = ap (λ (ls : List Lane). are_enabled setting ls own) same ∙ rest.0 in
    (and_from _ _ on later, ap (λ (ls : List Lane). run_of setting ls own) same ∙ rest.1)

pub goes_alone : (setting : Setting) (game : ℕ) (row : GameRow) (lanes : List Lane) (events : List Event) → IsItsRow row (run_of setting lanes events) game
    → GoesAlone setting game row lanes events (accepted setting game lanes events)
goes_alone setting game row lanes [] its = (refl, refl)
goes_alone setting game row lanes (e ∷ events) its =
    let next = step setting lanes e in
    let rest = goes_alone setting game row next events its in
    let own = accepted setting game next events in
    let P : List Event → Type 0 = GoesAlone setting game row lanes (e ∷ events) in
    elim (cases_Bool (is_accepted setting game lanes e)) [
      | inl on ↦ subst P (sym (cond-true (is_accepted setting game lanes e) (alone_event e ∷ own) own on)) (goes_on_alone setting game row lanes e events own on rest)
      | inr off ↦
          let same : lone (lane_or row next game) ≡ lone (lane_or row lanes game)
          = ap lone (unmoved setting game row lanes e (its_row_before setting game row next events its) off) in
          subst P (sym (cond-false (is_accepted setting game lanes e) (alone_event e ∷ own) own off))
          (subst (λ (ls : List Lane). (are_enabled setting ls own ≡ true) × (run_of setting ls own ≡ lone (lane_or row (run_of setting next events) game))) same rest)
    ]
