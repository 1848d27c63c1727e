-- A fiber's lane after each event.
use Rattle.std.proofs.Common.{◌≡◌, ℕ, zero, suc, ◌+◌, ◌-◌, ◌<◌, true, false, List, [], ◌∷◌, length, drop, refl, sym, ap, subst, ◌∙◌, arith, Global, Vec}
use Rattle.std.specs.Prelude.{Bool, ◌&&◌, nat_eq, Some, None, slice_set}
use Rattle.std.specs.List.{list_all}
use Rattle.std.proofs.Math.Seq.{take-add}
use Rattle.std.proofs.lemmas.Bool.{ltb-true}
use Rattle.bs_board.proofs.Chains.{and_both}
use Rattle.bs_board.specs.declared.commands.reply.Reply.{Reply}
use Rattle.bs_fiber.specs.declared.job.JobKind.{JobKind}
use Rattle.bs_fiber.specs.declared.job.JobKind.TheVariants as kind
use Rattle.bs_sched.specs.declared.fiber.Fiber.TheInside.{Inside}
use Rattle.bs_sched.specs.declared.stage.Stage.{Stage}
use Rattle.bs_sched.specs.declared.stage.Stage.TheVariants as stage
use Rattle.bs_sched.specs.PartState.{PartState}
use Rattle.bs_sched.specs.PartState as part
use Rattle.bs_sched.specs.inner.Insides.{lane_in}
use Rattle.bs_sched.specs.Lane.{Lane, part_at, is_part_ready, is_idle, is_in_parts, is_to_join, is_part_done, is_ready, is_out, with_taken, with_part_done}
use Rattle.bs_sched.specs.inner.Lane.{HasNoneReady}

pub drop_more : {X : Type 0} (n : ℕ) (xs : List X) → drop (n + 1) xs ≡ drop 1 (drop n xs)
drop_more zero xs = refl
drop_more (suc n) [] = let next : suc n + 1 ≡ suc (n + 1) = omega arith in rw next refl
drop_more (suc n) (x ∷ xs) = let next : suc n + 1 ≡ suc (n + 1) = omega arith in rw next (drop_more n xs)

-- the stage in which each event is enabled

pub ready_begin : (x : Lane) → is_ready x kind.Begin 0 ≡ true → (is_idle x.stage ≡ true) × (0 < length x.waiting)
ready_begin x ready = let both = and_both _ _ ready in (both.0, ltb-true _ _ both.1)

idle_of_parts : (s : Stage) → is_in_parts s ≡ true → s ≡ stage.Parts
idle_of_parts stage.Idle has = let wrong : false ≡ true = has in cc
idle_of_parts (stage.Begin other) has = let wrong : false ≡ true = has in cc
idle_of_parts stage.Parts has = refl
idle_of_parts (stage.Join taker) has = let wrong : false ≡ true = has in cc

join_of_ready : (s : Stage) → is_to_join s ≡ true → s ≡ stage.Join None
join_of_ready stage.Idle has = let wrong : false ≡ true = has in cc
join_of_ready (stage.Begin other) has = let wrong : false ≡ true = has in cc
join_of_ready stage.Parts has = let wrong : false ≡ true = has in cc
join_of_ready (stage.Join None) has = refl
join_of_ready (stage.Join (Some other)) has = let wrong : false ≡ true = has in cc

pub out_part : (x : Lane) (worker p : ℕ) → is_out worker x kind.Part p ≡ true → x.stage ≡ stage.Parts
out_part x worker p out = idle_of_parts x.stage (and_both _ _ out).0

pub ready_part : (x : Lane) (p : ℕ) → is_ready x kind.Part p ≡ true → x.stage ≡ stage.Parts
ready_part x p ready = idle_of_parts x.stage (and_both _ _ ready).0

pub ready_join : (x : Lane) → is_ready x kind.Join 0 ≡ true → x.stage ≡ stage.Join None
ready_join x ready = join_of_ready x.stage ready

-- the lanes after the events

pub begun_lane : (f : Inside) (x : Lane) (replies : Vec Reply Global) (worker : ℕ) → lane_in f ≡ x → is_ready x kind.Begin 0 ≡ true
    → replies.items ≡ f.replies.items
    → lane_in (record f { begun = f.begun + 1; replies = replies; stage = stage.Begin worker }) ≡ with_taken worker kind.Begin 0 x
begun_lane f x replies worker is ready same =
    let idle : is_idle f.stage ≡ true = (ready_begin (lane_in f) (subst (λ (y : Lane). is_ready y kind.Begin 0 ≡ true) (sym is) ready)).0 in
    let less : f.begun + 1 - 1 ≡ f.begun = omega arith in
    rw (← is, less, take-add, drop_more, same, idle) refl

pub joined_lane : (f : Inside) (x : Lane) (replies : Vec Reply Global) (worker : ℕ) → lane_in f ≡ x → is_ready x kind.Join 0 ≡ true → replies.items ≡ f.replies.items
    → lane_in (record f { replies = replies; stage = stage.Join (Some worker) }) ≡ with_taken worker kind.Join 0 x
joined_lane f x replies worker is ready same =
    let at : f.stage ≡ stage.Join None = ready_join (lane_in f) (subst (λ (y : Lane). is_ready y kind.Join 0 ≡ true) (sym is) ready) in
    rw (← is, same, at) refl

pub done_lane : (x : Lane) (parts : List PartState) (p : ℕ) → parts ≡ slice_set x.parts p part.Done → list_all is_part_done parts ≡ true
    → record x { stage = stage.Join None; parts = parts } ≡ with_part_done p x
done_lane x parts p same all =
    let test : list_all is_part_done (slice_set x.parts p part.Done) ≡ true = ap (list_all is_part_done) (sym same) ∙ all in
    rw (same, test) refl

pub undone_lane : (x : Lane) (parts : List PartState) (p : ℕ) → x.stage ≡ stage.Parts → parts ≡ slice_set x.parts p part.Done → list_all is_part_done parts ≡ false
    → record x { parts = parts } ≡ with_part_done p x
undone_lane x parts p at same some =
    let test : list_all is_part_done (slice_set x.parts p part.Done) ≡ false = ap (list_all is_part_done) (sym same) ∙ some in
    ap (λ (s : Stage). record x { stage = s; parts = parts }) at ∙ rw (same, test) refl

-- the jobs that cannot be taken

and_false : (a : Bool) → (a && false) ≡ false
and_false true = refl
and_false false = refl

pub none_in_parts : (x : Lane) → x.stage ≡ stage.Parts → ((p : ℕ) → is_part_ready (part_at x p) ≡ false) → HasNoneReady x
none_in_parts x at none kind.Begin p = rw at (and_false (nat_eq p 0))
none_in_parts x at none kind.Part p = rw (at, none p) refl
none_in_parts x at none kind.Join p = rw at (and_false (nat_eq p 0))

pub parts_stage : (x : Lane) → is_in_parts x.stage ≡ true → x.stage ≡ stage.Parts
parts_stage x at = idle_of_parts x.stage at

-- outside of its parts a lane has none ready
no_part_ready : (x : Lane) (parts : List PartState) (p : ℕ) → is_in_parts x.stage ≡ false → is_ready (record x { parts = parts }) kind.Part p ≡ false
no_part_ready x parts p at = rw at refl

pub none_with_parts : (x : Lane) (parts : List PartState) → is_in_parts x.stage ≡ false → HasNoneReady x → HasNoneReady (record x { parts = parts })
none_with_parts x parts at none kind.Begin p = none kind.Begin p
none_with_parts x parts at none kind.Part p = no_part_ready x parts p at
none_with_parts x parts at none kind.Join p = none kind.Join p

pub ready_with_parts : (x : Lane) (parts : List PartState) (k : JobKind) → is_in_parts x.stage ≡ false → is_ready x k 0 ≡ true → is_ready (record x { parts = parts }) k 0 ≡ true
ready_with_parts x parts kind.Begin at ready = ready
ready_with_parts x parts kind.Part at ready = let wrong : false ≡ true = sym (no_part_ready x x.parts 0 at) ∙ ready in absurd cc
ready_with_parts x parts kind.Join at ready = ready
