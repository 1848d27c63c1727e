-- How the bytes of a block lie in its places.
use Rattle.std.specs.Prelude.{◌≡◌, ℕ, ◌≤◌, List, map, length, take, Some}
use denote.RawPtr.{Ptr}
use Rattle.std.specs.Global.{Global}
use Rattle.bs_block.specs.Bytes.{IsCapacity}
use Rattle.bs_block.specs.inner.Region.{somes}
use Rattle.bs_block.specs.declared.block.Block.TheInside.{Inside}
use Rattle.bs_block.specs.declared.block.Origin.{Origin}
use Rattle.bs_block.specs.declared.block.Origin.TheVariants.{Alone, Grouped}

-- the bytes of the first `len` places
abbrev pub bytes_of : {most : ℕ} → Inside most → List ℕ
bytes_of b = somes (take b.len b.region.slots)

-- it is the origin of the n places at p
abbrev pub IsOriginOf : Origin → Ptr → ℕ → Global → Type 0
IsOriginOf (Alone deed) p n alloc = (deed.at ≡ p) × (deed.len ≡ n) × (deed.alloc ≡ alloc)
IsOriginOf (Grouped member) p n alloc = (member.at ≡ p) × (member.len ≡ n)

-- the invariant of a block
pub record IsBlock (most : ℕ) (b : Inside most) : Type 0 where
  pub capacity : IsCapacity most
  pub base : (b.base.ptr ≡ b.region.at) × (length b.region.slots ≡ most)
  pub origin : IsOriginOf b.origin b.base.ptr most b.alloc
  pub len : (b.len ≤ most) × (b.len ≡ length (bytes_of b))
  pub written : take b.len b.region.slots ≡ map Some (bytes_of b)
