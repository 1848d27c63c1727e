-- The pieces of a group, and the rule of the table by which their regions come back.
use Rattle.std.specs.Prelude.{◌≡◌, ℕ, ◌*◌, ◌<◌, length, slice_index, Option, Some, None}
use mathlib.Core.Option.{some}
use lib.ListN.{get_elem?}
use denote.RawPtr.{Ptr, ◌+ₚ◌}
use Rattle.atomic_table.specs.Table.{State}
use Rattle.bs_block.specs.declared.raw.Region.{Region}
use Rattle.bs_block.specs.declared.group.Layout.{Layout}
use Rattle.bs_block.specs.declared.group.Spare.{Spare}

-- where a region begins, and how long it is
pub record Place : Type 0 where
  pub at : Ptr
  pub len : ℕ

-- the place of a piece
abbrev pub place_of : Layout → ℕ → Place
place_of l k = record { at = l.base.ptr +ₚ k * l.size; len = l.size }

-- the region lies there
abbrev pub LiesAt : Place → Region → Type 0
LiesAt p x = (x.at ≡ p.at) × (length x.slots ≡ p.len)

-- where the word of a piece is 0, its slot is empty; where it is 1, its slot has its region
pub record Returned (l : Layout) (s : State (Option Spare) (Unit {0})) : Type 0 where
  pub wide : length s.words ≡ l.count
  pub deep : length s.homes ≡ l.count
  pub empty : (k : ℕ) → k < l.count → slice_index s.words k ≡ 0 → get_elem? s.homes k ≡ some (some None)
  pub back : (k : ℕ) → k < l.count → slice_index s.words k ≡ 1 → (x : Spare) × (get_elem? s.homes k ≡ some (some (Some x))) × LiesAt (place_of l k) x.region
