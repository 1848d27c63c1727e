-- The plan in the first line of a command file.
use Rattle.std.specs.Prelude.{◌≡◌, ℕ, codes, length, List, Option, Some, None, Result, Ok, Err, nat_lt, nat_le, if◌then◌else◌}
use Rattle.serde_json.specs.Data.{Data, Items}
use Rattle.serde_json.specs.Find.{get, as_array}
use Rattle.bs_board.specs.declared.plans.plan.Plan.{Plan}
use Rattle.bs_board.specs.declared.plans.version.Version.{Version}
use Rattle.bs_board.specs.declared.plans.version.Version.TheVariants.{One}
use Rattle.bs_board.specs.plans.Plan.{GameRow, row_of, is_fit_row, have_distinct_names}
use Rattle.bs_board.specs.plans.Version.{version_numbered}
use Rattle.bs_board.specs.declared.limits.TheConstants.{MOST_QUOTA, MOST_ROWS}
use Rattle.bs_json.specs.declared.limits.TheConstants.{MAX_LINE}
use Rattle.bs_json.specs.declared.plan.PlanFault.{PlanFault}
use Rattle.bs_json.specs.declared.plan.PlanFault.TheVariants.{Malformed, BadRow, TooMany, Memory}
use Rattle.bs_json.specs.Values.{◌>>=◌, value_of, whole, number_at, text_at, each}

-- 1 if the member is left out
abbrev pub version_of : Option Data → Option Version
version_of None = Some One
version_of (Some d) = whole d >>= version_numbered

abbrev pub fit_row : GameRow → Option GameRow
fit_row row = if is_fit_row row then Some row else None

abbrev pub row_from : Data → Option GameRow
row_from d = do
  game ← text_at (codes "game") d
  quota ← number_at (codes "quota") MOST_QUOTA d
  fit_row (row_of game quota)

-- a bad row or a repeated name is judged before the number of rows
abbrev pub plan_of_rows : Version → Option (List GameRow) → Result Plan PlanFault
plan_of_rows version None = Err BadRow
plan_of_rows version (Some rows) =
    if have_distinct_names rows then (if nat_le (length rows) MOST_ROWS then Ok (record { rows = rows; version = version }) else Err TooMany)
    else Err BadRow

abbrev pub plan_of_games : Option Version → Option Items → Result Plan PlanFault
plan_of_games (Some version) (Some games) = plan_of_rows version (each row_from games)
plan_of_games (Some version) None = Err Malformed
plan_of_games None games = Err Malformed

abbrev pub plan_from : Option Data → Result Plan PlanFault
plan_from None = Err Malformed
plan_from (Some d) = plan_of_games (version_of (get (codes "version") d)) (get (codes "games") d >>= as_array)

unfoldable pub plan_line_of : List ℕ → Result Plan PlanFault
plan_line_of bytes = if nat_lt MAX_LINE (length bytes) then Err Malformed else plan_from (value_of bytes)

-- that fault was found; nothing is claimed of `Memory`
abbrev pub IsPlanFault : Result Plan PlanFault → PlanFault → Type 0
IsPlanFault plan Malformed = plan ≡ Err Malformed
IsPlanFault plan BadRow = plan ≡ Err BadRow
IsPlanFault plan TooMany = plan ≡ Err TooMany
IsPlanFault plan Memory = Unit {0}
