use Rattle.std.proofs.Common.{◌≡◌, drop}
use Rattle.bs_board.specs.plans.Plan.{have_distinct_names}
use Rattle.bs_board.proofs.plans.plan.have_distinct_names.Given as goal

-- the remaining entries decide
abbrev pub invariant-loop-index : goal.invariant-loop-index
invariant-loop-index l = have_distinct_names (drop l.index l.rows) ≡ have_distinct_names l.rows
