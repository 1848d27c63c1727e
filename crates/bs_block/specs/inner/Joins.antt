-- The regions of a group, joined.
use Rattle.std.specs.Prelude.{◌≡◌, ℕ, ◌+◌, ◌*◌, ◌<◌, ◌^◌, ◌++◌, length}
use denote.RawPtr.{◌+ₚ◌}
use Rattle.bs_block.specs.declared.raw.Region.{Region}
use Rattle.bs_block.specs.declared.group.Layout.{Layout}
use Rattle.bs_block.specs.declared.group.Spare.{Spare}

-- the second region begins where the first ends, and both are short enough for one
abbrev pub Adjoin : Region → Region → Type 0
Adjoin a b = (b.at ≡ a.at +ₚ length a.slots) × (length a.slots + length b.slots < 2 ^ 63)

-- their places one after the other
abbrev pub IsJoint : Region → Region → Region → Type 0
IsJoint a b whole = (whole.at ≡ a.at) × (whole.slots ≡ a.slots ++ b.slots)

-- the first k pieces
abbrev pub AreFirst : Layout → ℕ → Spare → Type 0
AreFirst l k whole = (whole.region.at ≡ l.base.ptr) × (length whole.region.slots ≡ k * l.size)
