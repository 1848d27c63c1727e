-- The places of the first acts.
use Rattle.std.proofs.Common.{◌≡◌, length}
use Rattle.bs_workers.proofs.Played.{ArePlaced}
use Rattle.bs_workers.proofs.places.places_of.Given as goal

abbrev pub invariant-loop-place : goal.invariant-loop-place
invariant-loop-place l = ArePlaced l.acts l.places.items l.place × (length l.places.items ≡ l.stays)
