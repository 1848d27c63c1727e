-- A core whose stays are between two commands stays so: each act leaves them idle, and a command
-- that is answered where it is waits no more.
use Rattle.std.proofs.Common.{◌≡◌, ℕ, zero, suc, ◌+◌, ◌-◌, ◌<◌, Bool, true, false, List, [], ◌∷◌, ◌++◌, length, drop, get_or, set, refl, sym, ap, subst, ◌∙◌, arith, inl, inr, length-drop}
use Rattle.std.specs.Prelude.{◌||◌, if◌then◌else◌, slice_set}
use Rattle.std.specs.List.{list_all}
use Rattle.std.proofs.lemmas.Bool.{cases_Bool}
use Rattle.std.proofs.lemmas.List.{get_or-set_same, length-set, set-get_or, set-set}
use Rattle.std.proofs.lemmas.List.Sums.{sum_by-set}
use Rattle.bs_board.proofs.Chains.{and_both}
use Rattle.bs_board.specs.plans.Plan.{GameRow}
use Rattle.bs_fiber.specs.declared.job.JobKind.TheVariants as kind
use Rattle.bs_sched.specs.declared.event.Event.{Event}
use Rattle.bs_sched.specs.declared.event.Event.TheVariants as event
use Rattle.bs_sched.specs.declared.stage.Stage.{Stage}
use Rattle.bs_sched.specs.declared.stage.Stage.TheVariants as stage
use Rattle.bs_sched.specs.Answering.{AreNextParts, HasNoneWaiting, answer_events, begin_job, begun}
use Rattle.bs_sched.specs.Core.{CoreView}
use Rattle.bs_sched.specs.Games.{GamesView, after}
use Rattle.bs_sched.specs.Isolation.{opened_lanes}
use Rattle.bs_sched.specs.Lane.{Lane, answered, forked, goes_on, has_begin, has_join, is_idle, is_quiet, no_lane, occupies, with_put, with_taken}
use Rattle.bs_sched.specs.Machine.{is_busy, is_enabled_there, lane_of}
use Rattle.bs_sched.specs.inner.Answering.{games_after}
use Rattle.bs_sched.proofs.HereLanes.{ready_here, waits_here}
use Rattle.bs_sched.proofs.HereRun.{Step, event_of, events_of, jobs, jobs_are, put, take}
use Rattle.bs_workers.specs.inner.Making.{AreIdle, IsCalm, waiting_in}

-- one element of a list is another one

set_holds : {X : Type 0} (P : X → Type 0) (xs : List X) (i j : ℕ) (x d : X) → P x → P (get_or xs j d) → P (get_or (set xs i x) j d)
set_holds P [] i j x d new old = old
set_holds P (y ∷ xs) zero zero x d new old = new
set_holds P (y ∷ xs) zero (suc j) x d new old = old
set_holds P (y ∷ xs) (suc i) zero x d new old = old
set_holds P (y ∷ xs) (suc i) (suc j) x d new old = set_holds P xs i j x d new old

push_holds : {X : Type 0} (P : X → Type 0) (xs : List X) (j : ℕ) (x d : X) → P x → P d → P (get_or xs j d) → P (get_or (xs ++ x ∷ []) j d)
push_holds P [] zero x d new past old = new
push_holds P [] (suc j) x d new past old = past
push_holds P (y ∷ xs) zero x d new past old = old
push_holds P (y ∷ xs) (suc j) x d new past old = push_holds P xs j x d new past old

abbrev IsIdleLane : Lane → Type 0
IsIdleLane x = is_idle x.stage ≡ true

pub set_idle : (lanes : List Lane) (game : ℕ) (x : Lane) → AreIdle lanes → is_idle x.stage ≡ true → AreIdle (slice_set lanes game x)
set_idle lanes game x idle is = λ other. set_holds IsIdleLane lanes game other x no_lane is (idle other)

pub push_idle : (lanes : List Lane) (x : Lane) → AreIdle lanes → is_idle x.stage ≡ true → AreIdle (lanes ++ x ∷ [])
push_idle lanes x idle is = λ other. push_holds IsIdleLane lanes other x no_lane is refl (idle other)

pub opened_idle : (rows : List GameRow) → AreIdle (opened_lanes rows)
opened_idle [] game = refl
opened_idle (row ∷ rows) zero = refl
opened_idle (row ∷ rows) (suc game) = opened_idle rows game

-- the lane of a command that is answered where it is

abbrev lane_run : ℕ → Lane → List Step → Lane
lane_run worker x [] = x
lane_run worker x (take k p ∷ steps) = lane_run worker (with_taken worker k p x) steps
lane_run worker x (put k p ∷ steps) = lane_run worker (with_put k p x) steps

lanes_along : (cap worker game : ℕ) (games : GamesView) (steps : List Step) → game < length games.lanes
    → (games_after cap games (events_of worker game steps)).lanes ≡ slice_set games.lanes game (lane_run worker (lane_of games.lanes game) steps)
lanes_along cap worker game games [] within = sym (set-get_or games.lanes game no_lane)
lanes_along cap worker game games (take k p ∷ steps) within =
    let lanes = games.lanes in
    let y = with_taken worker k p (lane_of lanes game) in
    let long = length-set lanes game y in
    let rest = lanes_along cap worker game (after cap games (event_of worker game (take k p))) steps (omega (arith, long, within)) in
    rest ∙ ap (λ (x : Lane). slice_set (slice_set lanes game y) game (lane_run worker x steps)) (get_or-set_same lanes game y no_lane within)
    ∙ set-set lanes game y (lane_run worker y steps)
lanes_along cap worker game games (put k p ∷ steps) within =
    let lanes = games.lanes in
    let y = with_put k p (lane_of lanes game) in
    let long = length-set lanes game y in
    let rest = lanes_along cap worker game (after cap games (event_of worker game (put k p))) steps (omega (arith, long, within)) in
    rest ∙ ap (λ (x : Lane). slice_set (slice_set lanes game y) game (lane_run worker x steps)) (get_or-set_same lanes game y no_lane within)
    ∙ set-set lanes game y (lane_run worker y steps)

-- one command less waits in it, and it is idle again
pub record IsAnsweredLane (x y : Lane) : Type 0 where
  pub idle : is_idle y.stage ≡ true
  pub rest : y.waiting ≡ drop 1 x.waiting

waits_begun : (on : Bool) (y : Lane) → (if on then forked y else answered y).waiting ≡ y.waiting
waits_begun true y = refl
waits_begun false y = refl

idle_begun : (on : Bool) (y : Lane) → on ≡ false → is_idle (if on then forked y else answered y).stage ≡ true
idle_begun true y off = let wrong : true ≡ false = off in absurd cc
idle_begun false y off = refl

stays : (x : Lane) → AreNextParts x 0 → goes_on (begun x) ≡ false
stays x are =
    elim (cases_Bool (goes_on (begun x))) [
      | inl goes ↦ absurd (let some = are.some goes in omega (arith, some))
      | inr off ↦ off
    ]

answered_lane : (worker n : ℕ) (x : Lane) → AreNextParts x n → IsAnsweredLane x (lane_run worker x (jobs n))
answered_lane worker zero x are =
    let y = with_taken worker kind.Begin 0 x in
    let off : goes_on y ≡ false = stays x are in
    record { idle = idle_begun (goes_on y) y off; rest = waits_begun (goes_on y) y }
answered_lane worker (suc zero) x are = let y = with_taken worker kind.Begin 0 x in record { idle = refl; rest = waits_begun (goes_on y) y }
answered_lane worker (suc (suc zero)) x are = let y = with_taken worker kind.Begin 0 x in record { idle = refl; rest = waits_begun (goes_on y) y }
answered_lane worker (suc (suc (suc zero))) x are = let y = with_taken worker kind.Begin 0 x in record { idle = refl; rest = waits_begun (goes_on y) y }
answered_lane worker (suc (suc (suc (suc zero)))) x are = let y = with_taken worker kind.Begin 0 x in record { idle = refl; rest = waits_begun (goes_on y) y }
answered_lane worker (suc (suc (suc (suc (suc n))))) x are = absurd (let few = are.few in omega (arith, few))

-- that lane is changed and no other
pub record AreAnswered (game : ℕ) (old new : List Lane) : Type 0 where
  pub lane : Lane
  pub within : game < length old
  pub is : new ≡ slice_set old game lane
  pub answered : IsAnsweredLane (lane_of old game) lane
  pub some : 0 < length (lane_of old game).waiting

pub answered_here : (cap worker game n : ℕ) (games : GamesView) → is_enabled_there games.workers games.lanes (event.Take worker (begin_job game)) ≡ true
    → AreNextParts (lane_of games.lanes game) n → AreAnswered game games.lanes (games_after cap games (answer_events worker game n)).lanes
answered_here cap worker game n games enabled are =
    let at = ready_here games.workers games.lanes worker game enabled in
    let x = lane_of games.lanes game in
    record {
      lane = lane_run worker x (jobs n);
      within = at.0;
      is = ap (λ (events : List Event). (games_after cap games events).lanes) (sym (jobs_are worker game n are.few))
          ∙ lanes_along cap worker game games (jobs n) at.0;
      answered = answered_lane worker n x are;
      some = waits_here x at.1;
    }

pub answered_idle : (game : ℕ) (old new : List Lane) → AreAnswered game old new → AreIdle old → AreIdle new
answered_idle game old new is idle = subst AreIdle (sym is.is) (set_idle old game is.lane idle is.answered.idle)

pub one_fewer : (game : ℕ) (old new : List Lane) → AreAnswered game old new → waiting_in new + 1 ≡ waiting_in old
one_fewer game old new is =
    let x = lane_of old game in
    let sum = sum_by-set (λ (y : Lane). length y.waiting) old game is.lane no_lane is.within in
    let some = is.some in
    let fewer : length is.lane.waiting ≡ length x.waiting - 1 = ap length is.answered.rest ∙ length-drop 1 x.waiting in
    let all : waiting_in new ≡ waiting_in (slice_set old game is.lane) = ap waiting_in is.is in
    omega (arith, sum, some, fewer, all)

-- where no command waits, each stay is quiet

stage_free : (worker : ℕ) (s : Stage) → is_idle s ≡ true → (has_begin worker s || has_join worker s) ≡ false
stage_free worker stage.Idle idle = refl
stage_free worker (stage.Begin other) idle = let wrong : false ≡ true = idle in absurd cc
stage_free worker stage.Parts idle = let wrong : false ≡ true = idle in absurd cc
stage_free worker (stage.Join taker) idle = let wrong : false ≡ true = idle in absurd cc

idle_free : (worker : ℕ) (lanes : List Lane) → AreIdle lanes → is_busy worker lanes ≡ false
idle_free worker [] idle = refl
idle_free worker (x ∷ lanes) idle =
    let here : occupies worker x ≡ false = stage_free worker x.stage (idle 0) in
    let rest : is_busy worker lanes ≡ false = idle_free worker lanes (λ game. idle (suc game)) in
    rw (here, rest) refl

quiet_lane : (x : Lane) → is_idle x.stage ≡ true → x.waiting ≡ [] → is_quiet x ≡ true
quiet_lane x idle none = rw (idle, none) refl

all_from : (lanes : List Lane) → ((game : ℕ) → game < length lanes → is_quiet (lane_of lanes game) ≡ true) → list_all is_quiet lanes ≡ true
all_from [] each = refl
all_from (x ∷ lanes) each =
    let here : is_quiet x ≡ true = each 0 (omega arith) in
    let rest : list_all is_quiet lanes ≡ true = all_from lanes (λ game within. each (suc game) (omega (arith, within))) in
    rw (here, rest) refl

pub all_quiet : (core : CoreView) (worker : ℕ) → IsCalm core → HasNoneWaiting core worker → list_all is_quiet core.games.lanes ≡ true
all_quiet core worker calm none =
    let lanes = core.games.lanes in
    let waits = none calm.works (idle_free worker lanes calm.idle) (λ game within. calm.idle game) in
    all_from lanes (λ game within. quiet_lane (lane_of lanes game) (calm.idle game) (waits game within))

-- also a row in which no stay was opened
pub each_quiet : (lanes : List Lane) (game : ℕ) → list_all is_quiet lanes ≡ true → is_quiet (lane_of lanes game) ≡ true
each_quiet [] game all = refl
each_quiet (x ∷ lanes) zero all = (and_both (is_quiet x) (list_all is_quiet lanes) all).0
each_quiet (x ∷ lanes) (suc game) all = each_quiet lanes game (and_both (is_quiet x) (list_all is_quiet lanes) all).1
