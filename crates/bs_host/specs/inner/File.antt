-- What private contracts add to specs/File.
use Rattle.std.specs.Prelude.{ℕ, List, [], Option, Some, None, Result}
use Rattle.bs_board.specs.declared.plans.plan.Plan.{Plan}
use Rattle.bs_json.specs.declared.plan.PlanFault.{PlanFault}
use Rattle.bs_host.specs.File.{pieces_of, rows_in, version_in}

-- the pieces after a line feed, if there was one
abbrev pub pieces_after : Option (List ℕ) → List (List ℕ)
pieces_after None = []
pieces_after (Some text) = pieces_of text

-- a file without a plan is read as one of version 1 without games
abbrev pub plan_in : Result Plan PlanFault → Plan
plan_in found = record { rows = rows_in found; version = version_in found }
