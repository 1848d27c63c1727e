-- What private contracts add to specs/Cut.
use Rattle.std.specs.Prelude.{ℕ, List, ◌∷◌, ◌++◌, Option, Some, if◌then◌else◌, option_map}
use Rattle.std.specs.List.{flat_map}
use Rattle.bs_board.specs.declared.plans.plan.Plan.{Plan}
use Rattle.bs_board.specs.plans.Plan.{GameRow}
use Rattle.bs_workers.specs.Acts.{opened}
use Rattle.bs_host.specs.declared.cut_fault.Cut.{Cut}
use Rattle.bs_host.specs.declared.cut_fault.Cut.TheVariants.{Plan as OfPlan}
use Rattle.bs_host.specs.declared.fault.PlanRefusal.TheVariants as refusal
use Rattle.bs_host.specs.declared.lines.TheConstants.{LINE_FEED}
use Rattle.bs_host.specs.Cut.{is_too_small, lone_plan_of, nth_from, own_lines_in, refusal_of_stay}
use Rattle.bs_host.specs.Routing.{capacity_of, stays_behind}

-- each line with a line feed before it
abbrev pub behind_feeds : List (List ℕ) → List ℕ
behind_feeds = flat_map (λ line. LINE_FEED ∷ line)

-- Of a file, given its number of blocks, its plan, and the lines after it.
-- the n-th stay of that name, with its row
abbrev pub planned_stay : ℕ → Plan → List (List ℕ) → List ℕ → ℕ → Option (ℕ × GameRow)
planned_stay blocks plan lines name n = nth_from 0 (stays_behind (capacity_of blocks) plan.version plan.rows lines) name n

-- the first reason against cutting it to that stay
abbrev pub planned_refusal : ℕ → Plan → List (List ℕ) → List ℕ → ℕ → Option Cut
planned_refusal blocks plan lines name n =
    if is_too_small blocks plan then Some (OfPlan refusal.Short)
    else refusal_of_stay (option_map (λ found. found.0) (planned_stay blocks plan lines name n))

-- the file of that stay alone
abbrev pub planned_cut : ℕ → Plan → List (List ℕ) → ℕ × GameRow → List ℕ
planned_cut blocks plan lines found =
    lone_plan_of plan.version found.1 ++ behind_feeds (own_lines_in (capacity_of blocks) plan.version (opened plan.rows) found.0 lines)
