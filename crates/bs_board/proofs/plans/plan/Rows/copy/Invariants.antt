use Rattle.std.proofs.Common.{◌≡◌, take}
use Rattle.bs_board.proofs.plans.plan.Rows.copy.Given as goal

-- the entries copied so far
abbrev pub invariant-loop-row : goal.invariant-loop-row
invariant-loop-row l = l.rows.items ≡ take l.row-index l.row-items
