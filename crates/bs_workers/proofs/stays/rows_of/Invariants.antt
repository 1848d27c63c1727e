-- The rows of the plan and of the admissions so far.
use Rattle.std.proofs.Common.{◌≡◌, ◌++◌, take}
use Rattle.bs_workers.specs.Acts.{rows_admitted}
use Rattle.bs_workers.proofs.stays.rows_of.Given as goal

abbrev pub invariant-loop-act : goal.invariant-loop-act
invariant-loop-act l = l.rows.items ≡ l.plan ++ rows_admitted (take l.act-index l.acts)
