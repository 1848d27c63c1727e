-- No stay was played.
use Rattle.std.proofs.Common.{◌≡◌, None}
use Rattle.std.specs.Prelude.{All}
use Rattle.bs_workers.proofs.crew.Table.new.Given as goal

abbrev pub invariant-loop : goal.invariant-loop
invariant-loop g l = All (λ slot. slot ≡ None) l.slots.items
