-- The number of jobs of a core that are out: one more after each that is taken, one less after each
-- that is completed.
use Rattle.std.proofs.Common.{◌≡◌, ℕ, zero, suc, ◌+◌, ◌*◌, ◌<◌, Bool, true, false, List, [], ◌∷◌, length, map, get_or, refl, sym, arith}
use Rattle.std.specs.Prelude.{Some, None, ◌&&◌, ◌||◌, if◌then◌else◌, nat_eq, nat_lt, slice_set, replicate, sum_by}
use Rattle.std.specs.List.{list_all}
use Rattle.std.proofs.lemmas.Bool.{ltb-true}
use Rattle.std.proofs.lemmas.List.Folds.{sum_by-replicate}
use Rattle.std.proofs.lemmas.List.Sums.{sum_by-set, sum_by-cons, sum_by_push}
use Rattle.bs_board.proofs.Chains.{and_both}
use Rattle.bs_board.specs.declared.commands.command.Command.{Command}
use Rattle.bs_board.specs.plans.Plan.{GameRow}
use Rattle.bs_fiber.specs.declared.job.JobKind.{JobKind}
use Rattle.bs_fiber.specs.declared.job.JobKind.TheVariants as kind
use Rattle.bs_fiber.specs.declared.job.JobName.{JobName}
use Rattle.bs_fiber.specs.Work.{parts_of, snakes_in}
use Rattle.bs_game.specs.Game.{last_board}
use Rattle.bs_sched.specs.declared.event.Event.TheVariants as event
use Rattle.bs_sched.specs.declared.stage.Stage.{Stage}
use Rattle.bs_sched.specs.declared.stage.Stage.TheVariants as stage
use Rattle.bs_sched.specs.PartState.{PartState}
use Rattle.bs_sched.specs.PartState as part
use Rattle.bs_sched.specs.inner.Journal.{out_of_part, out_of_stage, out_of_lane, jobs_out}
use Rattle.bs_sched.specs.Lane.{Lane, empty_lane, closed_lane, no_lane, goes_on, is_idle, is_in_parts, is_to_join, has_begin, has_join, has_part, is_part_ready, is_part_done, is_ready, is_out, forked, answered, stage_with, with_waiting, with_taken, with_put}
use Rattle.bs_sched.specs.Machine.{lane_of, lane_effect, is_busy, is_enabled_there}

-- of the parts

ready_there : (parts : List PartState) (p : ℕ) → is_part_ready (get_or parts p part.Done) ≡ true → p < length parts
ready_there [] zero ready = let wrong : false ≡ true = ready in absurd cc
ready_there [] (suc p) ready = let wrong : false ≡ true = ready in absurd cc
ready_there (x ∷ parts) zero ready = omega arith
ready_there (x ∷ parts) (suc p) ready = let rest = ready_there parts p ready in omega (arith, rest)

out_there : (worker : ℕ) (parts : List PartState) (p : ℕ) → has_part worker (get_or parts p part.Done) ≡ true → p < length parts
out_there worker [] zero has = let wrong : false ≡ true = has in absurd cc
out_there worker [] (suc p) has = let wrong : false ≡ true = has in absurd cc
out_there worker (x ∷ parts) zero has = omega arith
out_there worker (x ∷ parts) (suc p) has = let rest = out_there worker parts p has in omega (arith, rest)

ready_is_in : (old : PartState) → is_part_ready old ≡ true → out_of_part old ≡ 0
ready_is_in part.Ready ready = refl
ready_is_in (part.Out worker) ready = let wrong : false ≡ true = ready in absurd cc
ready_is_in part.Done ready = refl

held_is_out : (worker : ℕ) (old : PartState) → has_part worker old ≡ true → out_of_part old ≡ 1
held_is_out worker part.Ready has = let wrong : false ≡ true = has in absurd cc
held_is_out worker (part.Out other) has = refl
held_is_out worker part.Done has = let wrong : false ≡ true = has in absurd cc

done_is_in : (old : PartState) → is_part_done old ≡ true → out_of_part old ≡ 0
done_is_in part.Ready done = refl
done_is_in (part.Out worker) done = let wrong : false ≡ true = done in absurd cc
done_is_in part.Done done = refl

all_in : (parts : List PartState) → list_all is_part_done parts ≡ true → sum_by out_of_part parts ≡ 0
all_in [] done = refl
all_in (x ∷ parts) done =
    let both = and_both (is_part_done x) (list_all is_part_done parts) done in
    let sum : sum_by out_of_part (x ∷ parts) ≡ out_of_part x + sum_by out_of_part parts = sum_by-cons out_of_part x parts in
    let here = done_is_in x both.0 in
    let rest = all_in parts both.1 in
    omega (arith, sum, here, rest)

-- of the stages

out_in_parts : (s : Stage) (parts : List PartState) → is_in_parts s ≡ true → out_of_stage s parts ≡ sum_by out_of_part parts
out_in_parts stage.Idle parts has = let wrong : false ≡ true = has in absurd cc
out_in_parts (stage.Begin worker) parts has = let wrong : false ≡ true = has in absurd cc
out_in_parts stage.Parts parts has = refl
out_in_parts (stage.Join taker) parts has = let wrong : false ≡ true = has in absurd cc

out_to_join : (s : Stage) (parts : List PartState) → is_to_join s ≡ true → out_of_stage s parts ≡ 0
out_to_join stage.Idle parts has = refl
out_to_join (stage.Begin worker) parts has = let wrong : false ≡ true = has in absurd cc
out_to_join stage.Parts parts has = let wrong : false ≡ true = has in absurd cc
out_to_join (stage.Join None) parts has = refl
out_to_join (stage.Join (Some worker)) parts has = let wrong : false ≡ true = has in absurd cc

pub out_idle : (s : Stage) (parts : List PartState) → is_idle s ≡ true → out_of_stage s parts ≡ 0
out_idle stage.Idle parts idle = refl
out_idle (stage.Begin worker) parts idle = let wrong : false ≡ true = idle in absurd cc
out_idle stage.Parts parts idle = let wrong : false ≡ true = idle in absurd cc
out_idle (stage.Join taker) parts idle = let wrong : false ≡ true = idle in absurd cc

out_begun : (worker : ℕ) (s : Stage) (parts : List PartState) → has_begin worker s ≡ true → out_of_stage s parts ≡ 1
out_begun worker stage.Idle parts has = let wrong : false ≡ true = has in absurd cc
out_begun worker (stage.Begin other) parts has = refl
out_begun worker stage.Parts parts has = let wrong : false ≡ true = has in absurd cc
out_begun worker (stage.Join taker) parts has = let wrong : false ≡ true = has in absurd cc

out_joining : (worker : ℕ) (s : Stage) (parts : List PartState) → has_join worker s ≡ true → out_of_stage s parts ≡ 1
out_joining worker stage.Idle parts has = let wrong : false ≡ true = has in absurd cc
out_joining worker (stage.Begin other) parts has = let wrong : false ≡ true = has in absurd cc
out_joining worker stage.Parts parts has = let wrong : false ≡ true = has in absurd cc
out_joining worker (stage.Join None) parts has = let wrong : false ≡ true = has in absurd cc
out_joining worker (stage.Join (Some other)) parts has = refl

closed_out : (all : Bool) (parts : List PartState) → (all ≡ true → sum_by out_of_part parts ≡ 0)
    → out_of_stage (if all then stage.Join None else stage.Parts) parts ≡ sum_by out_of_part parts
closed_out true parts none = sym (none refl)
closed_out false parts none = refl

-- of one lane

taken_out : (x : Lane) (worker : ℕ) (k : JobKind) (p : ℕ) → is_ready x k p ≡ true → out_of_lane (with_taken worker k p x) ≡ out_of_lane x + 1
taken_out x worker kind.Begin p ready =
    let idle : (is_idle x.stage && nat_lt 0 (length x.waiting)) ≡ true = (and_both (nat_eq p 0) _ ready).1 in
    let old = out_idle x.stage x.parts (and_both (is_idle x.stage) (nat_lt 0 (length x.waiting)) idle).0 in
    omega (arith, old)
taken_out x worker kind.Part p ready =
    let both = and_both _ _ ready in
    let within = ready_there x.parts p both.1 in
    let old = out_in_parts x.stage x.parts both.0 in
    let new = out_in_parts x.stage (slice_set x.parts p (part.Out worker)) both.0 in
    let was = ready_is_in (get_or x.parts p part.Done) both.1 in
    let sum = sum_by-set out_of_part x.parts p (part.Out worker) part.Done within in
    omega (arith, old, new, was, sum)
taken_out x worker kind.Join p ready =
    let old = out_to_join x.stage x.parts (and_both (nat_eq p 0) (is_to_join x.stage) ready).1 in
    omega (arith, old)

begun_in : (x : Lane) (on : Bool) → out_of_lane (if on then forked x else answered x) ≡ 0
begun_in x true =
    let seats = length (snakes_in (last_board x.game)) in
    let sum : sum_by out_of_part (replicate (parts_of seats) part.Ready) ≡ parts_of seats * 0 = sum_by-replicate out_of_part (parts_of seats) part.Ready in
    omega (arith, sum)
begun_in x false = refl

put_out : (x : Lane) (worker : ℕ) (k : JobKind) (p : ℕ) → is_out worker x k p ≡ true → out_of_lane (with_put k p x) + 1 ≡ out_of_lane x
put_out x worker kind.Begin p out =
    let old : out_of_lane x ≡ 1 = out_begun worker x.stage x.parts (and_both (nat_eq p 0) (has_begin worker x.stage) out).1 in
    let new = begun_in x (goes_on x) in
    omega (arith, old, new)
put_out x worker kind.Part p out =
    let both = and_both _ _ out in
    let parts = slice_set x.parts p part.Done in
    let within = out_there worker x.parts p both.1 in
    let old = out_in_parts x.stage x.parts both.0 in
    let new : out_of_stage (stage_with parts) parts ≡ sum_by out_of_part parts = closed_out (list_all is_part_done parts) parts (all_in parts) in
    let was = held_is_out worker (get_or x.parts p part.Done) both.1 in
    let sum = sum_by-set out_of_part x.parts p part.Done part.Done within in
    omega (arith, old, new, was, sum)
put_out x worker kind.Join p out =
    let old = out_joining worker x.stage x.parts (and_both (nat_eq p 0) (has_join worker x.stage) out).1 in
    omega (arith, old)

-- no job of a lane is out

free_in : (worker : ℕ) (s : Stage) (parts : List PartState) → out_of_stage s parts ≡ 0 → (has_begin worker s || has_join worker s) ≡ false
free_in worker stage.Idle parts none = refl
free_in worker (stage.Begin other) parts none = absurd (omega (arith, none))
free_in worker stage.Parts parts none = refl
free_in worker (stage.Join None) parts none = refl
free_in worker (stage.Join (Some other)) parts none = absurd (omega (arith, none))

-- of all lanes

pub nobody_busy : (worker : ℕ) (lanes : List Lane) → jobs_out lanes ≡ 0 → is_busy worker lanes ≡ false
nobody_busy worker [] none = refl
nobody_busy worker (x ∷ lanes) none =
    let sum = sum_by-cons out_of_lane x lanes in
    let here = free_in worker x.stage x.parts (omega (arith, sum, none)) in
    let rest = nobody_busy worker lanes (omega (arith, sum, none)) in
    rw (here, rest) refl

pub none_out : (rows : List GameRow) → jobs_out (map (λ (row : GameRow). empty_lane row) rows) ≡ 0
none_out [] = refl
none_out (row ∷ rows) =
    let sum = sum_by-cons out_of_lane (empty_lane row) (map (λ (each : GameRow). empty_lane each) rows) in
    let rest = none_out rows in
    omega (arith, sum, rest)

pub as_many_handed : (lanes : List Lane) (game : ℕ) (command : Command) → game < length lanes
    → jobs_out (lane_effect lanes (event.Hand game command)) ≡ jobs_out lanes
as_many_handed lanes game command within =
    let sum = sum_by-set out_of_lane lanes game (with_waiting command (lane_of lanes game)) no_lane within in
    omega (arith, sum)

pub one_more_out : (workers : ℕ) (lanes : List Lane) (worker : ℕ) (job : JobName) → is_enabled_there workers lanes (event.Take worker job) ≡ true
    → jobs_out (lane_effect lanes (event.Take worker job)) ≡ jobs_out lanes + 1
one_more_out workers lanes worker job enabled =
    let both = and_both _ _ enabled in
    let within : job.game < length lanes = ltb-true _ _ both.0 in
    let x = lane_of lanes job.game in
    let ready : is_ready x job.kind job.part ≡ true = (and_both _ _ both.1).0 in
    let here = taken_out x worker job.kind job.part ready in
    let sum = sum_by-set out_of_lane lanes job.game (with_taken worker job.kind job.part x) no_lane within in
    omega (arith, sum, here)

pub one_less_out : (workers : ℕ) (lanes : List Lane) (worker : ℕ) (job : JobName) → is_enabled_there workers lanes (event.Put worker job) ≡ true
    → jobs_out (lane_effect lanes (event.Put worker job)) + 1 ≡ jobs_out lanes
one_less_out workers lanes worker job enabled =
    let both = and_both _ _ enabled in
    let within : job.game < length lanes = ltb-true _ _ both.0 in
    let x = lane_of lanes job.game in
    let out : is_out worker x job.kind job.part ≡ true = (and_both _ _ both.1).0 in
    let here = put_out x worker job.kind job.part out in
    let sum = sum_by-set out_of_lane lanes job.game (with_put job.kind job.part x) no_lane within in
    omega (arith, sum, here)

pub as_many_admitted : (lanes : List Lane) (row : GameRow) → jobs_out (lane_effect lanes (event.Admit row)) ≡ jobs_out lanes
as_many_admitted lanes row = let sum = sum_by_push out_of_lane lanes (empty_lane row) in omega (arith, sum)

pub as_many_left : (lanes : List Lane) (game : ℕ) → game < length lanes → jobs_out (lane_effect lanes (event.Leave game)) ≡ jobs_out lanes
as_many_left lanes game within = let sum = sum_by-set out_of_lane lanes game (closed_lane (lane_of lanes game)) no_lane within in omega (arith, sum)
