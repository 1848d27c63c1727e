-- A command file: the pieces between its line feeds, and the plan in the first one.
use Rattle.std.specs.Prelude.{ℕ, ◌==◌, List, [], ◌∷◌, Result, Ok, Err}
use Rattle.std.specs.List.{slice_split}
use Rattle.bs_board.specs.declared.plans.plan.Plan.{Plan}
use Rattle.bs_board.specs.declared.plans.version.Version.{Version}
use Rattle.bs_board.specs.declared.plans.version.Version.TheVariants.{One}
use Rattle.bs_board.specs.plans.Plan.{GameRow}
use Rattle.bs_json.specs.declared.plan.PlanFault.{PlanFault}
use Rattle.bs_json.specs.PlanLine.{plan_line_of}
use Rattle.bs_host.specs.declared.lines.TheConstants.{LINE_FEED}

-- The text after the last line feed is a piece too. In most files it is empty, and it is then read
-- as a blank line, without a special rule.
abbrev pub pieces_of : List ℕ → List (List ℕ)
pieces_of file = slice_split (λ byte. byte == LINE_FEED) file

abbrev pub first_piece : List (List ℕ) → List ℕ
first_piece [] = []
first_piece (first ∷ rest) = first

abbrev pub later_pieces : List (List ℕ) → List (List ℕ)
later_pieces [] = []
later_pieces (first ∷ rest) = rest

-- the first line
abbrev pub plan_of : List ℕ → Result Plan PlanFault
plan_of file = plan_line_of (first_piece (pieces_of file))

abbrev pub rows_in : Result Plan PlanFault → List GameRow
rows_in (Ok plan) = plan.rows
rows_in (Err fault) = []

abbrev pub version_in : Result Plan PlanFault → Version
version_in (Ok plan) = plan.version
version_in (Err fault) = One

-- the games of the file; none if it has no plan
abbrev pub rows_of : List ℕ → List GameRow
rows_of file = rows_in (plan_of file)

abbrev pub version_of : List ℕ → Version
version_of file = version_in (plan_of file)
