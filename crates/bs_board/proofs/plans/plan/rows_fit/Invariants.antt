use Rattle.std.proofs.Common.{◌≡◌, All, take, true}
use Rattle.bs_board.specs.plans.Plan.{is_fit_row}
use Rattle.bs_board.proofs.plans.plan.rows_fit.Given as goal

-- the rows so far
abbrev pub invariant-loop-row : goal.invariant-loop-row
invariant-loop-row l = All (λ row. is_fit_row row ≡ true) (take l.row-index l.rows)
