-- A command that is answered at once: the events of its jobs are enabled, one after the other.
use Rattle.std.proofs.Common.{◌≡◌, ℕ, zero, suc, ◌+◌, ◌<◌, ◌≤◌, Bool, true, false, List, [], ◌∷◌, ◌++◌, length, refl, sym, ap, subst, ◌∙◌, arith, append-nil, append_assoc, inl, inr}
use Rattle.std.specs.Prelude.{◌&&◌, ◌||◌, not, nat_eq, nat_lt, nat_le, slice_set}
use Rattle.std.specs.List.{list_any}
use Rattle.std.proofs.lemmas.Bool.{and_from, cases_Bool, cond-true, eqb-true, lt-ltb, ltb-true}
use Rattle.std.proofs.lemmas.List.{get_or-set_same, length-set, set-get_or, set-set}
use Rattle.std.proofs.lemmas.List.Sums.{sum_by-set}
use Rattle.bs_board.proofs.Chains.{and_both}
use Rattle.bs_fiber.specs.declared.job.JobKind.{JobKind}
use Rattle.bs_fiber.specs.declared.job.JobKind.TheVariants as kind
use Rattle.bs_fiber.specs.declared.job.JobName.{JobName}
use Rattle.bs_sched.specs.declared.event.Event.{Event}
use Rattle.bs_sched.specs.declared.event.Event.TheVariants as event
use Rattle.bs_sched.specs.declared.stage.Stage.{Stage}
use Rattle.bs_sched.specs.declared.stage.Stage.TheVariants as stage
use Rattle.bs_sched.specs.Answering.{AreNextParts, answer_events, begin_job, begun}
use Rattle.bs_sched.specs.Core.{CoreView, core_after}
use Rattle.bs_sched.specs.Isolation.{HandsFit, are_enabled}
use Rattle.bs_sched.specs.Journal.{IsItsJournal, setting_in}
use Rattle.bs_sched.specs.Lane.{Lane, goes_on, is_idle, is_in_parts, is_out, is_part_ready, is_ready, is_to_join, has_begin, has_join, no_lane, occupies, part_at, with_put, with_taken}
use Rattle.bs_sched.specs.Machine.{Setting, is_busy, is_enabled, is_enabled_there, lane_effect, lane_of, step}
use Rattle.bs_sched.specs.Parts.{core_run}
use Rattle.bs_sched.specs.inner.Answering.{games_after}
use Rattle.bs_sched.specs.inner.Lane.{HasNoneReady}
use Rattle.bs_sched.specs.inner.Journal.{IsJournaled, core_in, jobs_out, out_of_lane, out_of_stage}
use Rattle.bs_sched.specs.declared.cores.Core.TheInside.{Inside}
use Rattle.bs_sched.specs.Games.{after}
use Rattle.bs_sched.proofs.FitInputs.{same_worker}
use Rattle.bs_sched.proofs.HereRun.{Step, event_of, events_of, forked_is, jobs, jobs_are, moves, moving, put, take}
use Rattle.bs_sched.proofs.Journaled.{journal_after, same_setting}

-- the lane allows the steps in turn, and the worker is free whenever it takes a job
abbrev AreAllowed : ℕ → Lane → List Step → Type 0
AreAllowed worker x [] = Unit {0}
AreAllowed worker x (take k p ∷ steps) = (is_ready x k p ≡ true) × (occupies worker x ≡ false) × AreAllowed worker (with_taken worker k p x) steps
AreAllowed worker x (put k p ∷ steps) = (is_out worker x k p ≡ true) × AreAllowed worker (with_put k p x) steps

-- the worker is free in all lanes but that one
abbrev IsFreeBeside : ℕ → List Lane → ℕ → Type 0
IsFreeBeside worker lanes game = (y : Lane) → occupies worker y ≡ false → is_busy worker (slice_set lanes game y) ≡ false

free_with : (worker : ℕ) (lanes : List Lane) (game : ℕ) (x : Lane) → IsFreeBeside worker lanes game → IsFreeBeside worker (slice_set lanes game x) game
free_with worker lanes game x free y off = ap (is_busy worker) (set-set lanes game x y) ∙ free y off

pub enabled_along : (setting : Setting) (lanes : List Lane) (worker game : ℕ) (steps : List Step) → game < length lanes → nat_le worker setting.workers ≡ true
    → IsFreeBeside worker lanes game → AreAllowed worker (lane_of lanes game) steps → are_enabled setting lanes (events_of worker game steps) ≡ true
enabled_along setting lanes worker game [] within bound free allowed = refl
enabled_along setting lanes worker game (take k p ∷ steps) within bound free allowed =
    let x = lane_of lanes game in
    let y = with_taken worker k p x in
    let e = event_of worker game (take k p) in
    let there : nat_lt game (length lanes) ≡ true = lt-ltb _ _ within in
    let idle : is_busy worker lanes ≡ false = ap (is_busy worker) (sym (set-get_or lanes game no_lane)) ∙ free x allowed.1 in
    let here : is_enabled setting lanes e ≡ true = rw (there, allowed.0, bound, idle) refl in
    let goes : step setting lanes e ≡ slice_set lanes game y = cond-true _ (lane_effect lanes e) lanes here in
    let lane : lane_of (slice_set lanes game y) game ≡ y = get_or-set_same lanes game y no_lane within in
    let long = length-set lanes game y in
    and_from (is_enabled setting lanes e) _ here
    (subst (λ (ls : List Lane). are_enabled setting ls (events_of worker game steps) ≡ true) (sym goes)
    (enabled_along setting (slice_set lanes game y) worker game steps (omega (arith, long, within)) bound (free_with worker lanes game y free)
    (subst (λ (z : Lane). AreAllowed worker z steps) (sym lane) allowed.2)))
enabled_along setting lanes worker game (put k p ∷ steps) within bound free allowed =
    let x = lane_of lanes game in
    let y = with_put k p x in
    let e = event_of worker game (put k p) in
    let there : nat_lt game (length lanes) ≡ true = lt-ltb _ _ within in
    let here : is_enabled setting lanes e ≡ true = rw (there, allowed.0) refl in
    let goes : step setting lanes e ≡ slice_set lanes game y = cond-true _ (lane_effect lanes e) lanes here in
    let lane : lane_of (slice_set lanes game y) game ≡ y = get_or-set_same lanes game y no_lane within in
    let long = length-set lanes game y in
    and_from (is_enabled setting lanes e) _ here
    (subst (λ (ls : List Lane). are_enabled setting ls (events_of worker game steps) ≡ true) (sym goes)
    (enabled_along setting (slice_set lanes game y) worker game steps (omega (arith, long, within)) bound (free_with worker lanes game y free)
    (subst (λ (z : Lane). AreAllowed worker z steps) (sym lane) allowed.1)))

-- the jobs of a command

allowed_moves : (worker n : ℕ) (x : Lane) → n ≤ 3 → AreAllowed worker (moving worker (suc n) x) (moves (suc n))
allowed_moves worker zero x few = let self = same_worker worker in (refl, refl, (self, (refl, refl, (self, tt))))
allowed_moves worker (suc zero) x few = let self = same_worker worker in (refl, refl, (refl, refl, (self, (self, (refl, refl, (self, tt))))))
allowed_moves worker (suc (suc zero)) x few =
    let self = same_worker worker in (refl, refl, (refl, refl, (refl, refl, (self, (self, (self, (refl, refl, (self, tt))))))))
allowed_moves worker (suc (suc (suc zero))) x few =
    let self = same_worker worker in (refl, refl, (refl, refl, (refl, refl, (refl, refl, (self, (self, (self, (self, (refl, refl, (self, tt))))))))))
allowed_moves worker (suc (suc (suc (suc n)))) x few = absurd (omega arith)

idle_stage : (s : Stage) → is_idle s ≡ true → s ≡ stage.Idle
idle_stage stage.Idle is = refl
idle_stage (stage.Begin worker) is = let wrong : false ≡ true = is in absurd cc
idle_stage stage.Parts is = let wrong : false ≡ true = is in absurd cc
idle_stage (stage.Join taker) is = let wrong : false ≡ true = is in absurd cc

-- a lane whose next command can be begun is idle
pub at_idle : (x : Lane) → is_ready x kind.Begin 0 ≡ true → x.stage ≡ stage.Idle
at_idle x ready = idle_stage x.stage (and_both (is_idle x.stage) (nat_lt 0 (length x.waiting)) ready).0

free_at : (worker : ℕ) (x : Lane) → x.stage ≡ stage.Idle → occupies worker x ≡ false
free_at worker x idle = ap (λ (s : Stage). has_begin worker s || has_join worker s) idle

goes_of : (x : Lane) (n : ℕ) → AreNextParts x (suc n) → goes_on (begun x) ≡ true
goes_of x n are =
    elim (cases_Bool (goes_on (begun x))) [
      | inl goes ↦ goes
      | inr stays ↦ let none : suc n ≡ 0 = are.is ∙ rw stays refl in absurd (omega (arith, none))
    ]

allowed_jobs : (worker n : ℕ) (x : Lane) → AreNextParts x n → is_ready x kind.Begin 0 ≡ true → AreAllowed worker x (jobs n)
allowed_jobs worker zero x are ready = (ready, free_at worker x (at_idle x ready), (same_worker worker, tt))
allowed_jobs worker (suc n) x are ready =
    let goes = goes_of x n are in
    let on : goes_on (with_taken worker kind.Begin 0 x) ≡ true = goes in
    let lane : with_put kind.Begin 0 (with_taken worker kind.Begin 0 x) ≡ moving worker (suc n) x = cond-true _ _ _ on ∙ forked_is worker (suc n) x are goes in
    let few = are.few in (
      ready,
      free_at worker x (at_idle x ready),
      (same_worker worker, subst (λ (y : Lane). AreAllowed worker y (moves (suc n))) (sym lane) (allowed_moves worker n x (omega (arith, few)))),
    )

-- a worker that may take a job is free in all lanes

neither : (a b : Bool) → (a || b) ≡ false → (a ≡ false) × (b ≡ false)
neither true b none = let wrong : true ≡ false = none in absurd cc
neither false b none = (refl, none)

either_none : (a b : Bool) → a ≡ false → b ≡ false → (a || b) ≡ false
either_none a b one two = rw (one, two) refl

none_set : (test : Lane → Bool) (lanes : List Lane) (game : ℕ) (y : Lane) → list_any test lanes ≡ false → test y ≡ false → list_any test (slice_set lanes game y) ≡ false
none_set test [] game y none off = refl
none_set test (x ∷ lanes) zero y none off = either_none (test y) (list_any test lanes) off (neither (test x) (list_any test lanes) none).1
none_set test (x ∷ lanes) (suc game) y none off =
    let both = neither (test x) (list_any test lanes) none in
    either_none (test x) (list_any test (slice_set lanes game y)) both.0 (none_set test lanes game y both.1 off)

not_true : (b : Bool) → not b ≡ true → b ≡ false
not_true true is = let wrong : false ≡ true = is in absurd cc
not_true false is = refl

pub ready_here : (workers : ℕ) (lanes : List Lane) (worker game : ℕ) → is_enabled_there workers lanes (event.Take worker (begin_job game)) ≡ true
    → (game < length lanes) × (is_ready (lane_of lanes game) kind.Begin 0 ≡ true) × (nat_le worker workers ≡ true) × (is_busy worker lanes ≡ false)
ready_here workers lanes worker game enabled =
    let x = lane_of lanes game in
    let all = and_both (nat_lt game (length lanes)) (is_ready x kind.Begin 0 && (nat_le worker workers && not (is_busy worker lanes))) enabled in
    let rest = and_both (is_ready x kind.Begin 0) (nat_le worker workers && not (is_busy worker lanes)) all.1 in
    let hands = and_both (nat_le worker workers) (not (is_busy worker lanes)) rest.1 in
    (ltb-true game (length lanes) all.0, rest.0, hands.0, not_true (is_busy worker lanes) hands.1)

pub waits_here : (x : Lane) → is_ready x kind.Begin 0 ≡ true → 0 < length x.waiting
waits_here x ready = ltb-true 0 (length x.waiting) (and_both (is_idle x.stage) (nat_lt 0 (length x.waiting)) ready).1

-- a Begin has one part
pub first_part : (workers : ℕ) (lanes : List Lane) (worker : ℕ) (job : JobName) → is_enabled_there workers lanes (event.Take worker job) ≡ true → job.kind ≡ kind.Begin
    → job ≡ begin_job job.game
first_part workers lanes worker job enabled begins =
    let x = lane_of lanes job.game in
    let hands = nat_le worker workers && not (is_busy worker lanes) in
    let all = and_both (nat_lt job.game (length lanes)) (is_ready x job.kind job.part && hands) enabled in
    let ready = subst (λ (k : JobKind). is_ready x k job.part ≡ true) begins (and_both (is_ready x job.kind job.part) hands all.1).0 in
    let part : job.part ≡ 0 = eqb-true job.part 0 (and_both (nat_eq job.part 0) (is_idle x.stage && nat_lt 0 (length x.waiting)) ready).0 in
    λ i. record { game = job.game; kind = begins i; part = part i }

-- an idle stay has no job but a Begin, and none if no command waits

pub idle_begins : (x : Lane) (k : JobKind) (p : ℕ) → is_idle x.stage ≡ true → is_ready x k p ≡ true → k ≡ kind.Begin
idle_begins x kind.Begin p idle ready = refl
idle_begins x kind.Part p idle ready =
    let parts : is_in_parts x.stage ≡ true = (and_both (is_in_parts x.stage) (is_part_ready (part_at x p)) ready).0 in
    let wrong : false ≡ true = subst (λ (s : Stage). is_in_parts s ≡ true) (idle_stage x.stage idle) parts in absurd cc
idle_begins x kind.Join p idle ready =
    let joins : is_to_join x.stage ≡ true = (and_both (nat_eq p 0) (is_to_join x.stage) ready).1 in
    let wrong : false ≡ true = subst (λ (s : Stage). is_to_join s ≡ true) (idle_stage x.stage idle) joins in absurd cc

nothing : {X : Type 0} (xs : List X) → nat_lt 0 (length xs) ≡ false → xs ≡ []
nothing [] none = refl
nothing (x ∷ xs) none = let wrong : true ≡ false = sym (lt-ltb 0 (length (x ∷ xs)) (omega arith)) ∙ none in absurd cc

pub none_waits : (x : Lane) → is_idle x.stage ≡ true → HasNoneReady x → x.waiting ≡ []
none_waits x idle none =
    let off : (is_idle x.stage && nat_lt 0 (length x.waiting)) ≡ false = none kind.Begin 0 in
    nothing x.waiting (subst (λ (b : Bool). (b && nat_lt 0 (length x.waiting)) ≡ false) idle off)

-- all jobs of a command are enabled in turn
pub enabled_here : (setting : Setting) (lanes : List Lane) (worker game n : ℕ) → is_enabled_there setting.workers lanes (event.Take worker (begin_job game)) ≡ true
    → AreNextParts (lane_of lanes game) n → are_enabled setting lanes (answer_events worker game n) ≡ true
enabled_here setting lanes worker game n enabled are =
    let at = ready_here setting.workers lanes worker game enabled in
    subst (λ (events : List Event). are_enabled setting lanes events ≡ true) (jobs_are worker game n are.few)
    (enabled_along setting lanes worker game (jobs n) at.0 at.2 (λ y off. none_set (occupies worker) lanes game y at.3 off)
    (allowed_jobs worker n (lane_of lanes game) are at.1))

-- ---- the journal after a list of events

abbrev pub AreFit : List Event → Type 0
AreFit [] = Unit {0}
AreFit (e ∷ events) = HandsFit e × AreFit events

fit_steps : (worker game : ℕ) (steps : List Step) → AreFit (events_of worker game steps)
fit_steps worker game [] = tt
fit_steps worker game (take k p ∷ steps) = (tt, fit_steps worker game steps)
fit_steps worker game (put k p ∷ steps) = (tt, fit_steps worker game steps)

fit_here : (worker game n : ℕ) → n ≤ 4 → AreFit (answer_events worker game n)
fit_here worker game n few = subst AreFit (jobs_are worker game n few) (fit_steps worker game (jobs n))

journal_run : (cap : ℕ) (core : CoreView) (events : List Event) → IsItsJournal cap core → are_enabled (setting_in cap core) core.games.lanes events ≡ true → AreFit events
    → IsItsJournal cap (core_run cap core events)
journal_run cap core [] is enabled fit = is
journal_run cap core (e ∷ events) is enabled fit =
    let setting = setting_in cap core in
    let lanes = core.games.lanes in
    let both = and_both (is_enabled setting lanes e) (are_enabled setting (step setting lanes e) events) enabled in
    let same = same_setting cap core e is both.0 fit.0 in
    let goes : step setting lanes e ≡ lane_effect lanes e = cond-true _ (lane_effect lanes e) lanes both.0 in
    journal_run cap (core_after cap core e) events (journal_after cap core e is both.0 fit.0)
    (subst (λ (h : Setting). are_enabled h (lane_effect lanes e) events ≡ true) (sym same)
    (subst (λ (ls : List Lane). are_enabled setting ls events ≡ true) goes both.1)) fit.1

pub core_runs : (cap : ℕ) (core : CoreView) (events : List Event)
    → core_run cap core events ≡ record { games = games_after cap core.games events; journal = core.journal ++ events }
core_runs cap core [] = ap (λ (journal : List Event). record { games = core.games; journal = journal }) (sym (append-nil core.journal))
core_runs cap core (e ∷ events) =
    core_runs cap (core_after cap core e) events
    ∙ ap (λ (journal : List Event). record { games = games_after cap core.games (e ∷ events); journal = journal }) (append_assoc core.journal (e ∷ []) events)

-- the journal of a core that answered a command
pub journal_here : (cap : ℕ) (core : CoreView) (worker game n : ℕ) → IsItsJournal cap core
    → is_enabled_there core.games.workers core.games.lanes (event.Take worker (begin_job game)) ≡ true → AreNextParts (lane_of core.games.lanes game) n
    → IsItsJournal cap (core_run cap core (answer_events worker game n))
journal_here cap core worker game n is enabled are =
    journal_run cap core (answer_events worker game n) is (enabled_here (setting_in cap core) core.games.lanes worker game n enabled are) (fit_here worker game n are.few)

-- no job of the stay is out before and after

idle_out : (x : Lane) → x.stage ≡ stage.Idle → out_of_lane x ≡ 0
idle_out x idle = ap (λ (s : Stage). out_of_stage s x.parts) idle

pub same_out : (lanes : List Lane) (game : ℕ) (y : Lane) → game < length lanes → (lane_of lanes game).stage ≡ stage.Idle → y.stage ≡ stage.Idle
    → jobs_out (slice_set lanes game y) ≡ jobs_out lanes
same_out lanes game y within before after =
    let sum = sum_by-set out_of_lane lanes game y no_lane within in
    let old = idle_out (lane_of lanes game) before in
    let new = idle_out y after in
    omega (arith, sum, old, new)

-- how a core that answered a command lies in its fields
pub journaled_here : (cap : ℕ) {at : ℕ} (c new : Inside at) (worker game n : ℕ) (y : Lane) → IsJournaled cap c
    → is_enabled_there c.games.workers c.games.lanes (event.Take worker (begin_job game)) ≡ true → AreNextParts (lane_of c.games.lanes game) n
    → new.games ≡ games_after cap c.games (answer_events worker game n) → new.games.lanes ≡ slice_set c.games.lanes game y → y.stage ≡ stage.Idle
    → new.journal.events ≡ c.journal.events ++ answer_events worker game n → new.out ≡ c.out → new.journal.used + new.out ≤ new.journal.room
    → IsJournaled cap new
journaled_here cap c new worker game n y sound enabled are games lanes idle journal out room =
    let events = answer_events worker game n in
    let core = core_in c in
    let at = ready_here c.games.workers c.games.lanes worker game enabled in
    let before = at_idle (lane_of c.games.lanes game) at.1 in
    let is : core_in new ≡ core_run cap core events
    = (λ i. record { games = games i; journal = journal i }) ∙ sym (core_runs cap core events) in
    record {
      journal = subst (IsItsJournal cap) (sym is) (journal_here cap core worker game n sound.journal enabled are);
      out = out ∙ sound.out ∙ sym (same_out c.games.lanes game y at.0 before idle) ∙ ap jobs_out (sym lanes);
      room = room;
    }
