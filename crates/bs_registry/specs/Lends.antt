-- What a registry ends as, once a `&mut` into it has ended.
use Rattle.std.specs.Prelude.{ℕ}
use Rattle.std.specs.Borrow.{Fml, RattleType, MutBor, Lends}
use Rattle.bs_registry.specs.Registry.{Listing, with_kept}
use Rattle.bs_registry.specs.contracts.registry.Registry.{the_row}

-- what is kept for the stay at that place is the last value written through r
abbrev pub lends_kept : (R : RattleType) → MutBor (Listing R.Denot) → ℕ → MutBor R.Denot → Fml
lends_kept R registry place r = Lends (the_row R) R registry r (λ kept. with_kept place kept registry.now)
