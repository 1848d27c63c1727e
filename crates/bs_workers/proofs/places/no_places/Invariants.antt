use Rattle.std.proofs.Common.{◌≡◌, [], length}
use Rattle.std.specs.Prelude.{All}
use Rattle.bs_workers.proofs.places.no_places.Given as goal

-- no list has a place
abbrev pub invariant-loop : goal.invariant-loop
invariant-loop l = All (λ list. list ≡ []) l.places.items × (length l.places.items ≡ l.counter)
