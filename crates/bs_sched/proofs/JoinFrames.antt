-- The parts of a move that is joined.
use Rattle.std.proofs.Common.{◌≡◌, ℕ, suc, ◌+◌, ◌≤◌, true, false, List, [], ◌∷◌, length, map, Option, Some, None, slice_get, refl, ap, ◌∙◌, subst, arith}
use Rattle.std.specs.List.{list_all, range_with_len}
use Rattle.std.specs.Prelude.{nat_eq}
use Rattle.std.proofs.lemmas.Bool.{and_parts, eqb-true}
use Rattle.std.proofs.lemmas.List.{length-map}
use Rattle.bs_board.specs.declared.commands.command.Command.{Command}
use Rattle.bs_game.specs.declared.view.View.{View}
use Rattle.bs_fiber.specs.declared.job.JobKind.TheVariants as kind
use Rattle.bs_fiber.specs.declared.job.JobKind.{JobKind}
use Rattle.bs_fiber.specs.Work.{moved_part}
use Rattle.bs_sched.specs.declared.stage.Stage.{Stage}
use Rattle.bs_sched.specs.declared.stage.Stage.TheVariants as stage
use Rattle.bs_sched.specs.Frames.{FramesView, Written, flattened, written}
use Rattle.bs_sched.specs.inner.Frames.{joining_frames}
use Rattle.bs_sched.specs.Inputs.{job_numbers, written_by}
use Rattle.bs_sched.specs.Lane.{Lane, is_part_done, is_ready, is_to_join, with_taken, lane_view, lane_command}
use Rattle.bs_sched.specs.MoveParts.{PartView, PartsView}
use Rattle.bs_sched.specs.inner.MoveParts.{AreDoneAt, ArePartsIn, FitParts, IsPartAt, frames_of, joined_of, moved_of, number_of, parts_joined, state_of, states_of}
use Rattle.bs_sched.specs.MoveParts as part
use Rattle.bs_sched.specs.PartState.{PartState}
use Rattle.bs_sched.proofs.Lanes.{ready_join}

known_all : {X : Type 0} (xs : List X) → flattened (map Some xs) ≡ xs
known_all [] = refl
known_all {X} (x ∷ xs) = ap (λ (ys : List X). x ∷ ys) (known_all xs)

pub join_is_0 : (x : Lane) (p : ℕ) → is_ready x kind.Join p ≡ true → p ≡ 0
join_is_0 x p ready = eqb-true p 0 (and_parts (nat_eq p 0) (is_to_join x.stage) ready).0

-- what all parts wrote, in part order, from part k on
all_back : (view : View) (command : Command) (list : List PartView) (k : ℕ) → list_all is_part_done (map state_of list) ≡ true
    → ((p : ℕ) (s : PartView) → slice_get list p ≡ Some s → IsPartAt view command (k + p) s)
    → map moved_of list ≡ map Some (map (λ p. written (moved_part p view command)) (range_with_len k (length (map state_of list))))
all_back view command [] k done each = refl
all_back view command (part.Ready ∷ list) k done each = let wrong : false ≡ true = done in absurd cc
all_back view command (part.Out worker block ∷ list) k done each = let wrong : false ≡ true = done in absurd cc
all_back view command (part.Done moved block ∷ list) k done each =
    let start : k + 0 ≡ k = omega arith in
    let here : moved ≡ written (moved_part k view command) = each 0 (part.Done moved block) refl ∙ ap (λ (q : ℕ). written (moved_part q view command)) start in
    let rest = all_back view command list (k + 1) done (λ p s is. let next : k + 1 + p ≡ k + suc p = omega arith in rw next (each (suc p) s is)) in
    ap (λ (m : Written). Some m ∷ map moved_of list) here ∙ ap (λ (l : List (Option Written)). Some (written (moved_part k view command)) ∷ l) rest
all_back view command (part.Joining block ∷ list) k done each = absurd (each 0 (part.Joining block) refl)

pub record AreToJoin (x : Lane) (v : PartsView) : Type 0 where
  pub at : x.stage ≡ stage.Join None
  pub back : (frames_of v).moved ≡ map Some (written_by (record x { parts = states_of v }))
  pub few : length v.list ≤ 4

pub to_join : (x : Lane) (v : PartsView) (p : ℕ) → is_ready x kind.Join p ≡ true → FitParts x v → AreToJoin x v
to_join x v p ready fit =
    let at = ready_join x (subst (λ (q : ℕ). is_ready x kind.Join q ≡ true) (join_is_0 x p ready) ready) in
    let done : AreDoneAt (lane_view x) (lane_command x) v.list = subst (λ (s : Stage). ArePartsIn s x v) at fit.at in
    record {
      at = at;
      back = all_back (lane_view x) (lane_command x) v.list 0 done.all (λ p s is. let none : 0 + p ≡ p = omega arith in rw none (done.each p s is));
      few = fit.few;
    }

pub joined_moved : (x : Lane) (v : PartsView) → AreToJoin x v → flattened (frames_of v).moved ≡ written_by (record x { parts = states_of v })
joined_moved x v here = ap (λ (l : List (Option Written)). flattened l) here.back ∙ known_all (written_by (record x { parts = states_of v }))

-- ---- what contracts see of the parts then

numbers_stay : (list : List PartView) → map number_of (map joined_of list) ≡ map number_of list
numbers_stay [] = refl
numbers_stay (part.Ready ∷ list) = ap (λ (l : List (Option ℕ)). None ∷ l) (numbers_stay list)
numbers_stay (part.Out worker block ∷ list) = ap (λ (l : List (Option ℕ)). Some block ∷ l) (numbers_stay list)
numbers_stay (part.Done moved block ∷ list) = ap (λ (l : List (Option ℕ)). Some block ∷ l) (numbers_stay list)
numbers_stay (part.Joining block ∷ list) = ap (λ (l : List (Option ℕ)). Some block ∷ l) (numbers_stay list)

nothing_stays : (list : List PartView) → map moved_of (map joined_of list) ≡ map (λ _. None) (map moved_of list)
nothing_stays [] = refl
nothing_stays (part.Ready ∷ list) = ap (λ (l : List (Option Written)). None ∷ l) (nothing_stays list)
nothing_stays (part.Out worker block ∷ list) = ap (λ (l : List (Option Written)). None ∷ l) (nothing_stays list)
nothing_stays (part.Done moved block ∷ list) = ap (λ (l : List (Option Written)). None ∷ l) (nothing_stays list)
nothing_stays (part.Joining block ∷ list) = ap (λ (l : List (Option Written)). None ∷ l) (nothing_stays list)

states_stay : (list : List PartView) → map state_of (map joined_of list) ≡ map state_of list
states_stay [] = refl
states_stay (part.Ready ∷ list) = ap (λ (l : List PartState). state_of part.Ready ∷ l) (states_stay list)
states_stay (part.Out worker block ∷ list) = ap (λ (l : List PartState). state_of (part.Out worker block) ∷ l) (states_stay list)
states_stay (part.Done moved block ∷ list) = ap (λ (l : List PartState). state_of (part.Done moved block) ∷ l) (states_stay list)
states_stay (part.Joining block ∷ list) = ap (λ (l : List PartState). state_of (part.Joining block) ∷ l) (states_stay list)

pub seen_joined : (v : PartsView) → frames_of (parts_joined v) ≡ joining_frames (frames_of v)
seen_joined v = rw (numbers_stay v.list, nothing_stays v.list) refl

pub states_joined : (v : PartsView) → states_of (parts_joined v) ≡ states_of v
states_joined v = states_stay v.list

pub joined_fit : (x y : Lane) (v : PartsView) (worker p : ℕ) → y ≡ with_taken worker kind.Join p x → FitParts x v → FitParts y (parts_joined v)
joined_fit x y v worker p y_is fit =
    let few = fit.few in
    let many = length-map v.list joined_of in
    rw y_is (record { few = omega (arith, few, many); at = tt })

-- the blocks of all parts are the Join's
pub join_names : (k : JobKind) (p : ℕ) (f h : FramesView) (names : List (ℕ × ℕ)) → k ≡ kind.Join → h ≡ joining_frames f → names ≡ map (λ n. (f.tag, n)) (flattened f.numbers)
    → names ≡ map (λ n. (h.tag, n)) (job_numbers k p h.numbers)
join_names k p f h names join is are = rw (join, is) are
