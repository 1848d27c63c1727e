-- Why a file whose plan was parsed is not cut to a stay, and what it is cut to.
use Rattle.std.proofs.Common.{◌≡◌, ℕ, true, false, List, ◌++◌, Some, None, sym, ap, ◌∙◌}
use Rattle.std.specs.Prelude.{option_map}
use Rattle.std.proofs.lemmas.Bool.{cond-true, cond-false}
use Rattle.bs_board.specs.declared.plans.plan.Plan.{Plan}
use Rattle.bs_board.specs.plans.Plan.{GameRow}
use Rattle.bs_workers.specs.Acts.{opened}
use Rattle.bs_host.specs.declared.cut_fault.Cut.TheVariants.{NoSuchGame, Plan as OfPlan}
use Rattle.bs_host.specs.declared.fault.PlanRefusal.TheVariants as refusal
use Rattle.bs_host.specs.Cut.{is_too_small, lone_plan_of, own_lines_in, refusal_of_stay}
use Rattle.bs_host.specs.inner.Cut.{behind_feeds, planned_cut, planned_refusal, planned_stay}
use Rattle.bs_host.specs.Routing.{capacity_of}

module _ (blocks : ℕ) (plan : Plan) (lines : List (List ℕ)) (game name : List ℕ) (n : ℕ) where
  pub too_small : is_too_small blocks plan ≡ true → planned_refusal blocks plan lines game n ≡ Some (OfPlan refusal.Short)
  too_small few =
      cond-true _ (Some (OfPlan refusal.Short)) (refusal_of_stay (option_map (λ (f : ℕ × GameRow). f.0) (planned_stay blocks plan lines game n))) few

  module _ (enough : is_too_small blocks plan ≡ false) (same : name ≡ game) where
    of_stay : planned_refusal blocks plan lines game n ≡ refusal_of_stay (option_map (λ (f : ℕ × GameRow). f.0) (planned_stay blocks plan lines name n))
    of_stay =
        cond-false _ (Some (OfPlan refusal.Short)) (refusal_of_stay (option_map (λ (f : ℕ × GameRow). f.0) (planned_stay blocks plan lines game n))) enough
        ∙ ap (λ g. refusal_of_stay (option_map (λ (f : ℕ × GameRow). f.0) (planned_stay blocks plan lines g n))) (sym same)

    pub none_against : (found : ℕ × GameRow) → Some found ≡ planned_stay blocks plan lines name n → planned_refusal blocks plan lines game n ≡ None
    none_against found is = of_stay ∙ ap (λ o. refusal_of_stay (option_map (λ (f : ℕ × GameRow). f.0) o)) (sym is)

    pub not_there : None ≡ planned_stay blocks plan lines name n → planned_refusal blocks plan lines game n ≡ Some NoSuchGame
    not_there is = of_stay ∙ ap (λ o. refusal_of_stay (option_map (λ (f : ℕ × GameRow). f.0) o)) (sym is)

  -- the text made for the stay that was found
  pub cut_of_found : (text : List ℕ) (found : ℕ × GameRow) → name ≡ game → Some found ≡ planned_stay blocks plan lines name n
      → text ≡ lone_plan_of plan.version found.1 ++ behind_feeds (own_lines_in (capacity_of blocks) plan.version (opened plan.rows) found.0 lines)
      → option_map (planned_cut blocks plan lines) (planned_stay blocks plan lines game n) ≡ Some text
  cut_of_found text found same looked written =
      ap (λ g. option_map (planned_cut blocks plan lines) (planned_stay blocks plan lines g n)) (sym same)
      ∙ ap (option_map (planned_cut blocks plan lines)) (sym looked) ∙ ap Some (sym written)
