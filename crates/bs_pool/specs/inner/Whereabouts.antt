-- Whether the block of a number is in its slot.
use Rattle.std.specs.Prelude.{◌≡◌, ℕ, [], Option, Some, None}
use Rattle.bs_pool.specs.declared.slot.Whereabouts.{Whereabouts}
use Rattle.bs_pool.specs.declared.slot.Whereabouts.TheVariants.{Home, Out}

-- the tag that owns the block; None if the block is in its slot
abbrev pub owner_in : {most : ℕ} → Whereabouts most → Option ℕ
owner_in (Home block) = None
owner_in (Out owner) = Some owner

-- a block in its slot is empty
abbrev pub IsEmptyAtHome : {most : ℕ} → Whereabouts most → Type 0
IsEmptyAtHome (Home block) = block ≡ []
IsEmptyAtHome (Out owner) = Unit {0}
