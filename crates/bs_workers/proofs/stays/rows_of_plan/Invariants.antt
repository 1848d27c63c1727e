-- The rows so far.
use Rattle.std.proofs.Common.{◌≡◌, take}
use Rattle.bs_workers.proofs.stays.rows_of_plan.Given as goal

abbrev pub invariant-loop-row : goal.invariant-loop-row
invariant-loop-row l = l.rows.items ≡ take l.row-index l.plan
