-- What the acts so far say of the stays, and the events of the acts.
use Rattle.std.proofs.Common.{◌≡◌, ℕ, ◌+◌, ◌<◌, Bool, true, false, List, [], ◌∷◌, ◌++◌, length, map, take, get_or, refl, sym, ap, subst, ◌∙◌}
use Rattle.std.specs.Prelude.{◌&&◌, ◌||◌, All, nat_eq}
use Rattle.std.specs.List.{filter_map, list_any}
use Rattle.std.proofs.lemmas.List.{append_assoc, map-append, take_more}
use Rattle.std.proofs.lemmas.List.Elements.{All-push}
use Rattle.std.proofs.lemmas.List.Folds.{list_any-append}
use Rattle.bs_board.specs.plans.Plan.{GameRow}
use Rattle.bs_registry.specs.Stays.{Capacity, Stay}
use Rattle.bs_sched.specs.declared.step.Step.{Step}
use Rattle.bs_sched.specs.Isolation.{HandsFit}
use Rattle.bs_sched.specs.Registry.{commands_to, rows_in}
use Rattle.bs_sched.specs.StaysApart.{are_acts_in, leaves_in}
use Rattle.bs_sched.specs.StaysHeld.{steps_of}
use Rattle.bs_workers.specs.declared.act.Act.{Act}
use Rattle.bs_workers.specs.declared.act.Act.TheVariants as act
use Rattle.bs_workers.specs.Acts.{are_acceptable, command_in, is_acceptable, registry_after, rows_admitted}
use Rattle.bs_workers.specs.Run.{acts_of}
use Rattle.bs_workers.specs.inner.Stays.{event_of, is_leave, step_in}
use Rattle.bs_workers.proofs.Ended.{commands_of_acts, rows_of_acts}

-- one more act

one_more : (acts : List Act) (i : ℕ) (next : Act) → i < length acts → next ≡ get_or acts i next → take (i + 1) acts ≡ take i acts ++ next ∷ []
one_more acts i next within is = take_more acts i next within ∙ ap (λ (a : Act). take i acts ++ a ∷ []) (sym is)

admitted_append : (acts more : List Act) → rows_admitted (acts ++ more) ≡ rows_admitted acts ++ rows_admitted more
admitted_append [] more = refl
admitted_append (act.Hand stay command ∷ acts) more = admitted_append acts more
admitted_append (act.Admit row ∷ acts) more = ap (λ rows. row ∷ rows) (admitted_append acts more)
admitted_append (act.Leave stay ∷ acts) more = admitted_append acts more

pub one_more_row : (plan rows new : List GameRow) (acts : List Act) (i : ℕ) (next : Act) → i < length acts → next ≡ get_or acts i next
    → rows ≡ plan ++ rows_admitted (take i acts) → new ≡ rows ++ rows_admitted (next ∷ []) → new ≡ plan ++ rows_admitted (take (i + 1) acts)
one_more_row plan rows new acts i next within is before added =
    added ∙ ap (λ some. some ++ rows_admitted (next ∷ [])) before
    ∙ append_assoc plan (rows_admitted (take i acts)) (rows_admitted (next ∷ []))
    ∙ ap (λ some. plan ++ some) (sym (ap rows_admitted (one_more acts i next within is) ∙ admitted_append (take i acts) (next ∷ [])))

pub one_more_step : (acts : List Act) (i : ℕ) (next : Act) (steps new : List Step) (step : Step) → i < length acts → next ≡ get_or acts i next
    → new ≡ steps ++ step ∷ [] → step ≡ step_in next → steps ≡ map step_in (take i acts) → new ≡ map step_in (take (i + 1) acts)
one_more_step acts i next steps new step within is added same before =
    added ∙ ap (λ (some : List Step). some ++ step ∷ []) before ∙ ap (λ (s : Step). map step_in (take i acts) ++ s ∷ []) same
    ∙ sym (ap (map step_in) (one_more acts i next within is) ∙ map-append step_in (take i acts) (next ∷ []))

pub one_more_fits : (acts : List Act) (i : ℕ) (next : Act) → i < length acts → next ≡ get_or acts i next → HandsFit (event_of next)
    → All HandsFit (map event_of (take i acts)) → All HandsFit (map event_of (take (i + 1) acts))
one_more_fits acts i next within is one before =
    subst (All HandsFit) (sym (ap (map event_of) (one_more acts i next within is) ∙ map-append event_of (take i acts) (next ∷ [])))
    (All-push HandsFit (map event_of (take i acts)) (event_of next) before one)

-- which stays leave by the first acts
abbrev pub HaveLeftSo : List Act → ℕ → List Bool → Type 0
HaveLeftSo acts i leaves = (row : ℕ) → row < length leaves → get_or leaves row false ≡ list_any (is_leave row) (take i acts)

leaves_more : (acts : List Act) (i : ℕ) (next : Act) (row : ℕ) → i < length acts → next ≡ get_or acts i next
    → list_any (is_leave row) (take (i + 1) acts) ≡ (list_any (is_leave row) (take i acts) || (is_leave row next || false))
leaves_more acts i next row within is =
    ap (list_any (is_leave row)) (one_more acts i next within is) ∙ list_any-append (is_leave row) (take i acts) (next ∷ [])

or_true : (b c : Bool) → c ≡ true → (b || c) ≡ true
or_true true c is = refl
or_true false c is = is

or_false : (b c : Bool) → c ≡ false → (b || c) ≡ b
or_false true c is = refl
or_false false c is = is

-- the events of acts

pub acts_again : (acts : List Act) → acts_of (map event_of acts) ≡ acts
acts_again [] = refl
acts_again (act.Hand stay command ∷ acts) = ap (λ (more : List Act). act.Hand stay command ∷ more) (acts_again acts)
acts_again (act.Admit row ∷ acts) = ap (λ (more : List Act). act.Admit row ∷ more) (acts_again acts)
acts_again (act.Leave stay ∷ acts) = ap (λ (more : List Act). act.Leave stay ∷ more) (acts_again acts)

pub rows_again : (acts : List Act) → rows_in (map event_of acts) ≡ rows_admitted acts
rows_again acts = rows_of_acts (map event_of acts) ∙ ap rows_admitted (acts_again acts)

pub commands_again : (row : ℕ) (acts : List Act) → commands_to row (map event_of acts) ≡ filter_map (command_in row) acts
commands_again row acts = commands_of_acts row (map event_of acts) ∙ ap (filter_map (command_in row)) (acts_again acts)

pub steps_again : (acts : List Act) → steps_of (map event_of acts) ≡ map step_in acts
steps_again [] = refl
steps_again (act.Hand stay command ∷ acts) = ap (λ steps. step_in (act.Hand stay command) ∷ steps) (steps_again acts)
steps_again (act.Admit row ∷ acts) = ap (λ steps. step_in (act.Admit row) ∷ steps) (steps_again acts)
steps_again (act.Leave stay ∷ acts) = ap (λ steps. step_in (act.Leave stay) ∷ steps) (steps_again acts)

pub leaves_again : (row : ℕ) (acts : List Act) → leaves_in row (map event_of acts) ≡ list_any (is_leave row) acts
leaves_again row [] = refl
leaves_again row (act.Hand stay command ∷ acts) = leaves_again row acts
leaves_again row (act.Admit new ∷ acts) = leaves_again row acts
leaves_again row (act.Leave stay ∷ acts) = ap (λ rest. nat_eq stay row || rest) (leaves_again row acts)

pub allowed_again : (capacity : Capacity) (registry : List Stay) (acts : List Act)
    → are_acts_in capacity registry (map event_of acts) ≡ are_acceptable capacity registry acts
allowed_again capacity registry [] = refl
allowed_again capacity registry (act.Hand stay command ∷ acts) =
    ap (λ rest. is_acceptable capacity registry (act.Hand stay command) && rest) (allowed_again capacity registry acts)
allowed_again capacity registry (act.Admit row ∷ acts) =
    ap (λ rest. is_acceptable capacity registry (act.Admit row) && rest) (allowed_again capacity (registry_after registry (act.Admit row)) acts)
allowed_again capacity registry (act.Leave stay ∷ acts) =
    ap (λ rest. is_acceptable capacity registry (act.Leave stay) && rest) (allowed_again capacity (registry_after registry (act.Leave stay)) acts)
