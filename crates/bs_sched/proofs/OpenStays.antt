-- Commands and jobs leave the rows of the stays, and which of them are open.
use Rattle.std.proofs.Common.{◌≡◌, ℕ, Bool, true, false, if◌then◌else◌, List, [], ◌∷◌, length, refl, ap, ◌∙◌, arith, inl, inr}
use Rattle.std.specs.Prelude.{All}
use Rattle.std.proofs.lemmas.Bool.{cases_Bool, cond-true, cond-false}
use Rattle.std.proofs.Math.Seq.{map-set_same}
use Rattle.std.proofs.lemmas.List.{length-map}
use Rattle.std.proofs.lemmas.List.Elements.{All-head, All-tail}
use Rattle.bs_board.specs.plans.Plan.{GameRow}
use Rattle.bs_fiber.specs.declared.job.JobKind.{JobKind}
use Rattle.bs_fiber.specs.declared.job.JobKind.TheVariants as kind
use Rattle.bs_sched.specs.declared.event.Event.{Event}
use Rattle.bs_sched.specs.declared.event.Event.TheVariants as event
use Rattle.bs_sched.specs.inner.Assembling.{IsWork}
use Rattle.bs_sched.specs.Isolation.{opened_lanes}
use Rattle.bs_sched.specs.Lane.{Lane, no_lane, answered, empty_lane, forked, goes_on, with_put, with_taken}
use Rattle.bs_sched.specs.Machine.{Setting, is_enabled, lane_effect, lane_of, run_of, step}
use Rattle.bs_sched.specs.Registry.{registry_of, stay_of}

taken_stays : (worker : ℕ) (k : JobKind) (p : ℕ) (x : Lane) → stay_of (with_taken worker k p x) ≡ stay_of x
taken_stays worker kind.Begin p x = refl
taken_stays worker kind.Part p x = refl
taken_stays worker kind.Join p x = refl

begun_stays : (x : Lane) (on : Bool) → stay_of (if on then forked x else answered x) ≡ stay_of x
begun_stays x true = refl
begun_stays x false = refl

put_stays : (k : JobKind) (p : ℕ) (x : Lane) → stay_of (with_put k p x) ≡ stay_of x
put_stays kind.Begin p x = begun_stays x (goes_on x)
put_stays kind.Part p x = refl
put_stays kind.Join p x = refl

effect_stays : (lanes : List Lane) (e : Event) → IsWork e → registry_of (lane_effect lanes e) ≡ registry_of lanes
effect_stays lanes (event.Hand game command) work = map-set_same stay_of lanes game _ no_lane refl
effect_stays lanes (event.Take worker job) work =
    map-set_same stay_of lanes job.game _ no_lane (taken_stays worker job.kind job.part (lane_of lanes job.game))
effect_stays lanes (event.Put worker job) work = map-set_same stay_of lanes job.game _ no_lane (put_stays job.kind job.part (lane_of lanes job.game))
effect_stays lanes (event.Admit row) work = absurd work
effect_stays lanes (event.Leave game) work = absurd work

step_stays : (setting : Setting) (lanes : List Lane) (e : Event) → IsWork e → registry_of (step setting lanes e) ≡ registry_of lanes
step_stays setting lanes e work =
    elim (cases_Bool (is_enabled setting lanes e)) [
      | inl on ↦ ap registry_of (cond-true (is_enabled setting lanes e) (lane_effect lanes e) lanes on) ∙ effect_stays lanes e work
      | inr off ↦ ap registry_of (cond-false (is_enabled setting lanes e) (lane_effect lanes e) lanes off)
    ]

pub run_stays : (setting : Setting) (lanes : List Lane) (events : List Event) → All IsWork events → registry_of (run_of setting lanes events) ≡ registry_of lanes
run_stays setting lanes [] work = refl
run_stays setting lanes (e ∷ events) work =
    run_stays setting (step setting lanes e) events (All-tail IsWork e events work) ∙ step_stays setting lanes e (All-head IsWork e events work)

-- as many stays as rows of the plan

module _ (rows : List GameRow) (lanes : List Lane) (same : registry_of lanes ≡ registry_of (opened_lanes rows)) where
  pub many_open : length lanes ≡ length rows
  many_open =
      let one = length-map lanes stay_of in
      let other = length-map (opened_lanes rows) stay_of in
      let opened = length-map rows empty_lane in
      let long = ap length same in
      omega (arith, one, other, opened, long)
