-- No stay leaves.
use Rattle.std.proofs.Common.{◌≡◌, false, length}
use Rattle.std.specs.Prelude.{All}
use Rattle.bs_workers.proofs.stays.none_leave.Given as goal

abbrev pub invariant-loop : goal.invariant-loop
invariant-loop l = All (λ leave. leave ≡ false) l.leaves.items × (length l.leaves.items ≡ l.counter)
