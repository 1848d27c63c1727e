-- Which parts of a lane's move have a block, before and after each event.
use Rattle.std.proofs.Common.{◌≡◌, ℕ, zero, suc, ◌<◌, ◌≤◌, Bool, true, false, if◌then◌else◌, List, [], ◌∷◌, length, map, Option, Some, None, slice_get, refl, sym, ap, ◌∙◌, arith}
use Rattle.std.specs.Prelude.{is_some, nat_eq, replicate, slice_index_or, slice_set}
use Rattle.std.specs.List.{list_all}
use Rattle.std.proofs.lemmas.Bool.{and_parts}
use Rattle.std.proofs.lemmas.List.{length-map, map-set}
use Rattle.bs_board.specs.declared.boards.board.Board.{Board}
use Rattle.bs_game.specs.Game.{Game, IsGame, last_board}
use Rattle.bs_game.proofs.Games.{legal_last}
use Rattle.bs_fiber.specs.declared.job.JobKind.{JobKind}
use Rattle.bs_fiber.specs.declared.job.JobKind.TheVariants as kind
use Rattle.bs_fiber.specs.Work.{parts_of, snakes_in}
use Rattle.bs_pool.specs.Ledger.{Ledger}
use Rattle.bs_heap.specs.HeldBlocks.{next_number}
use Rattle.bs_sched.specs.declared.event.Event.{Event}
use Rattle.bs_sched.specs.declared.event.Event.TheVariants as event
use Rattle.bs_sched.specs.declared.stage.Stage.{Stage}
use Rattle.bs_sched.specs.declared.stage.Stage.TheVariants as stage
use Rattle.bs_sched.specs.PartState.{PartState}
use Rattle.bs_sched.specs.PartState as part
use Rattle.bs_sched.specs.Courses.{IsRight}
use Rattle.bs_sched.specs.inner.FrameEffects.{Keeps, Forks, begun_parts, brought_effect, frame_effect, is_begun, numbers_after, taken_effect}
use Rattle.bs_sched.specs.Frames.{flattened}
use Rattle.bs_sched.specs.Lane.{Lane, answered, forked, goes_on, has_begin, has_part, is_idle, is_in_parts, is_out, is_part_done, is_part_ready, is_playing, is_quiet, is_ready, is_to_join, part_at, with_put, with_taken}
use Rattle.bs_sched.specs.Machine.{is_allowed, lane_after}
use Rattle.bs_sched.proofs.Lanes.{out_part, ready_part}
use Rattle.bs_sched.proofs.PartFrames.{one_less}

abbrev pub flags : List (Option ℕ) → List Bool
flags = map is_some

-- of the stages

abbrev begun_of : Stage → List PartState → List Bool
begun_of s parts = if is_playing s then map is_begun parts else []

idle_none : (s : Stage) (parts : List PartState) → is_idle s ≡ true → begun_of s parts ≡ []
idle_none stage.Idle parts idle = refl
idle_none (stage.Begin worker) parts idle = let wrong : false ≡ true = idle in absurd cc
idle_none stage.Parts parts idle = let wrong : false ≡ true = idle in absurd cc
idle_none (stage.Join taker) parts idle = let wrong : false ≡ true = idle in absurd cc

begin_none : (worker : ℕ) (s : Stage) (parts : List PartState) → has_begin worker s ≡ true → begun_of s parts ≡ []
begin_none worker stage.Idle parts has = let wrong : false ≡ true = has in absurd cc
begin_none worker (stage.Begin other) parts has = refl
begin_none worker stage.Parts parts has = let wrong : false ≡ true = has in absurd cc
begin_none worker (stage.Join taker) parts has = let wrong : false ≡ true = has in absurd cc

join_same : (worker : ℕ) (s : Stage) (parts : List PartState) → is_to_join s ≡ true → begun_of (stage.Join (Some worker)) parts ≡ begun_of s parts
join_same worker stage.Idle parts joins = let wrong : false ≡ true = joins in absurd cc
join_same worker (stage.Begin other) parts joins = let wrong : false ≡ true = joins in absurd cc
join_same worker stage.Parts parts joins = let wrong : false ≡ true = joins in absurd cc
join_same worker (stage.Join None) parts joins = refl
join_same worker (stage.Join (Some other)) parts joins = let wrong : false ≡ true = joins in absurd cc

of_parts : (s : Stage) (parts : List PartState) → s ≡ stage.Parts → begun_of s parts ≡ map is_begun parts
of_parts s parts at = rw at refl

closed_parts : (all : Bool) (parts : List PartState) → begun_of (if all then stage.Join None else stage.Parts) parts ≡ map is_begun parts
closed_parts true parts = refl
closed_parts false parts = refl

-- of one part

not_begun : (s : PartState) → is_part_ready s ≡ true → is_begun s ≡ false
not_begun part.Ready ready = refl
not_begun (part.Out worker) ready = let wrong : false ≡ true = ready in absurd cc
not_begun part.Done ready = let wrong : false ≡ true = ready in absurd cc

begun_out : (worker : ℕ) (s : PartState) → has_part worker s ≡ true → is_begun s ≡ true
begun_out worker part.Ready out = let wrong : false ≡ true = out in absurd cc
begun_out worker (part.Out other) out = refl
begun_out worker part.Done out = let wrong : false ≡ true = out in absurd cc

-- a part that was taken stays so
done_same : (parts : List PartState) (p worker : ℕ) → has_part worker (slice_index_or parts p part.Done) ≡ true → map is_begun (slice_set parts p part.Done) ≡ map is_begun parts
done_same [] p worker out = refl
done_same (s ∷ parts) zero worker out = ap (λ (b : Bool). b ∷ map is_begun parts) (sym (begun_out worker s out))
done_same (s ∷ parts) (suc p) worker out = ap (λ (l : List Bool). is_begun s ∷ l) (done_same parts p worker out)

none_ready : (n : ℕ) → flags (replicate n None) ≡ map is_begun (replicate n part.Ready)
none_ready zero = refl
none_ready (suc n) = ap (λ (l : List Bool). false ∷ l) (none_ready n)

-- each event

pub record AreBegun (x : Lane) (numbers : List (Option ℕ)) : Type 0 where
  pub are : flags numbers ≡ begun_parts x

shape_taken : (x : Lane) (worker p : ℕ) (k : JobKind) (numbers : List (Option ℕ)) (pool : Ledger) → is_ready x k p ≡ true → flags numbers ≡ begun_parts x
    → flags (numbers_after (taken_effect k p) numbers pool) ≡ begun_parts (with_taken worker k p x)
shape_taken x worker p kind.Begin numbers pool ready are =
    are ∙ idle_none x.stage x.parts (and_parts _ _ (and_parts (nat_eq p 0) _ ready).1).0
shape_taken x worker p kind.Part numbers pool ready are =
    let at = ready_part x p ready in
    let before = of_parts x.stage x.parts at in
    let after = of_parts x.stage (slice_set x.parts p (part.Out worker)) at in
    map-set is_some numbers p (Some (next_number pool)) ∙ ap (λ (l : List Bool). slice_set l p true) (are ∙ before)
    ∙ sym (map-set is_begun x.parts p (part.Out worker)) ∙ sym after
shape_taken x worker p kind.Join numbers pool ready are = are ∙ sym (join_same worker x.stage x.parts (and_parts (nat_eq p 0) (is_to_join x.stage) ready).1)

shape_begun : (x : Lane) (worker : ℕ) (on : Bool) (numbers : List (Option ℕ)) (pool : Ledger) → has_begin worker x.stage ≡ true → flags numbers ≡ begun_parts x
    → flags (numbers_after (if on then Forks (length (forked x).parts) else Keeps) numbers pool) ≡ begun_parts (if on then forked x else answered x)
shape_begun x worker true numbers pool has are =
    let n = parts_of (length (snakes_in (last_board x.game))) in
    let many : length (replicate n part.Ready) ≡ n = length_ready n in
    rw many (none_ready n)
  where
    length_ready : (n : ℕ) → length (replicate n part.Ready) ≡ n
    length_ready zero = refl
    length_ready (suc n) = ap suc (length_ready n)
shape_begun x worker false numbers pool has are = are ∙ begin_none worker x.stage x.parts has

shape_put : (x : Lane) (worker p : ℕ) (k : JobKind) (numbers : List (Option ℕ)) (pool : Ledger) → is_out worker x k p ≡ true → flags numbers ≡ begun_parts x
    → flags (numbers_after (brought_effect k x) numbers pool) ≡ begun_parts (with_put k p x)
shape_put x worker p kind.Begin numbers pool out are = shape_begun x worker (goes_on x) numbers pool (and_parts (nat_eq p 0) (has_begin worker x.stage) out).1 are
shape_put x worker p kind.Part numbers pool out are =
    let at = out_part x worker p out in
    let there : has_part worker (part_at x p) ≡ true = (and_parts (is_in_parts x.stage) (has_part worker (part_at x p)) out).1 in
    let parts = slice_set x.parts p part.Done in
    are ∙ of_parts x.stage x.parts at ∙ sym (done_same x.parts p worker there) ∙ sym (closed_parts (list_all is_part_done parts) parts)
shape_put x worker p kind.Join numbers pool out are = refl

pub shape_after : (x : Lane) (e : Event) (numbers : List (Option ℕ)) (pool : Ledger) → is_allowed x e ≡ true → AreBegun x numbers
    → AreBegun (lane_after x e) (numbers_after (frame_effect e x) numbers pool)
shape_after x (event.Hand game command) numbers pool allowed are = record { are = are.are }
shape_after x (event.Take worker job) numbers pool allowed are = record { are = shape_taken x worker job.part job.kind numbers pool allowed are.are }
shape_after x (event.Put worker job) numbers pool allowed are = record { are = shape_put x worker job.part job.kind numbers pool allowed are.are }
shape_after x (event.Admit row) numbers pool allowed are = record { are = are.are }
shape_after x (event.Leave game) numbers pool allowed are = record { are = are.are }

-- while a command is begun no block is drawn
no_flags : (numbers : List (Option ℕ)) → flags numbers ≡ [] → flattened numbers ≡ []
no_flags [] none = refl
no_flags (o ∷ numbers) none = let wrong : is_some o ∷ flags numbers ≡ [] = none in absurd cc

pub none_drawn : (x : Lane) (worker : ℕ) (numbers : List (Option ℕ)) → has_begin worker x.stage ≡ true → AreBegun x numbers → flattened numbers ≡ []
none_drawn x worker numbers has begun = no_flags numbers (begun.are ∙ begin_none worker x.stage x.parts has)

of_begun : (plays : Bool) (parts : List PartState) → plays ≡ false → (if plays then map is_begun parts else []) ≡ []
of_begun true parts none = let wrong : true ≡ false = none in absurd cc
of_begun false parts none = refl

pub none_idle : (x : Lane) (numbers : List (Option ℕ)) → is_playing x.stage ≡ false → AreBegun x numbers → flattened numbers ≡ []
none_idle x numbers idle begun = no_flags numbers (begun.are ∙ of_begun (is_playing x.stage) x.parts idle)

-- there are at most four

few_in : (game : Game) (last : Option Board) → IsGame game → last ≡ last_board game → parts_of (length (snakes_in last)) ≤ 4
few_in game None right is = omega arith
few_in game (Some board) right is = let few = (legal_last game board right is).limits.few in omega (arith, few)

few_parts : (x : Lane) → IsRight x → is_playing x.stage ≡ true → length x.parts ≤ 4
few_parts x right plays =
    let few = few_in x.game (last_board x.game) right.right refl in
    let many = (right.moves plays).parts in
    omega (arith, few, many)

few_flags : (x : Lane) (plays : Bool) → IsRight x → plays ≡ is_playing x.stage → length (if plays then map is_begun x.parts else []) ≤ 4
few_flags x true right is = let few = few_parts x right (sym is) in let many = length-map x.parts is_begun in omega (arith, few, many)
few_flags x false right is = omega arith

pub few_numbers : (x : Lane) (numbers : List (Option ℕ)) → IsRight x → AreBegun x numbers → length numbers ≤ 4
few_numbers x numbers right are =
    let few = few_flags x (is_playing x.stage) right refl in
    let many = length-map numbers is_some in
    let same = ap length are.are in
    omega (arith, few, many, same)

-- a ready part has no block yet

flag_false : (numbers : List (Option ℕ)) (parts : List PartState) (p : ℕ) → flags numbers ≡ map is_begun parts → is_part_ready (slice_index_or parts p part.Done) ≡ true
    → slice_get numbers p ≡ Some None
flag_false numbers [] p same ready = let wrong : false ≡ true = ready in absurd cc
flag_false [] (s ∷ parts) p same ready = let nothing : List Bool = [] in let wrong : nothing ≡ is_begun s ∷ map is_begun parts = same in absurd cc
flag_false (None ∷ numbers) (s ∷ parts) zero same ready = refl
flag_false (Some n ∷ numbers) (s ∷ parts) zero same ready =
    let both : true ∷ flags numbers ≡ is_begun s ∷ map is_begun parts = same in
    let flag : true ≡ is_begun s = cc in
    let wrong : true ≡ false = flag ∙ not_begun s ready in
    absurd cc
flag_false (o ∷ numbers) (s ∷ parts) (suc p) same ready =
    let both : is_some o ∷ flags numbers ≡ is_begun s ∷ map is_begun parts = same in
    let rest : flags numbers ≡ map is_begun parts = cc in
    flag_false numbers parts p rest ready

pub free_to_draw : (x : Lane) (p : ℕ) (numbers : List (Option ℕ)) → is_ready x kind.Part p ≡ true → AreBegun x numbers → slice_get numbers p ≡ Some None
free_to_draw x p numbers ready are =
    flag_false numbers x.parts p (are.are ∙ of_parts x.stage x.parts (ready_part x p ready)) (and_parts (is_in_parts x.stage) (is_part_ready (part_at x p)) ready).1

pub one_left : (x : Lane) (p : ℕ) (numbers : List (Option ℕ)) → IsRight x → is_ready x kind.Part p ≡ true → AreBegun x numbers → length (flattened numbers) < 4
one_left x p numbers right ready are =
    let few = few_numbers x numbers right are in
    let less = one_less numbers p (free_to_draw x p numbers ready are) in
    omega (arith, few, less)

-- an idle stay has no move

idle_still : (s : Stage) → is_idle s ≡ true → is_playing s ≡ false
idle_still stage.Idle idle = refl
idle_still (stage.Begin worker) idle = refl
idle_still stage.Parts idle = let wrong : false ≡ true = idle in cc
idle_still (stage.Join taker) idle = let wrong : false ≡ true = idle in cc

pub none_quiet : (x : Lane) (numbers : List (Option ℕ)) → is_quiet x ≡ true → AreBegun x numbers → flattened numbers ≡ []
none_quiet x numbers quiet begun = none_idle x numbers (idle_still x.stage (and_parts (is_idle x.stage) _ quiet).0) begun
