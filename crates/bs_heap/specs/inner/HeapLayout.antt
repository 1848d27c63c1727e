-- How a heap lies in its fields.
use Rattle.std.specs.Prelude.{◌≡◌, ℕ, ◌-◌, ◌≤◌, ◌<◌, List, length, All, slice_index_or, vec_len, vec_capacity}
use Rattle.bs_heap.specs.declared.blocks.Entry.{Entry}
use Rattle.bs_heap.specs.declared.heap.TagHeap.TheInside.{Inside}
use Rattle.bs_heap.specs.declared.heap.TheConstants.{MOST_RECORD_BYTES}
use Rattle.bs_heap.specs.Blocks.{Blocks}
use Rattle.bs_heap.specs.inner.Blocks.{all_blocks}
use Rattle.bs_heap.specs.Charge.{charge_of, blocks_for}
use Rattle.bs_heap.specs.inner.Entries.{records_in, packing_in, IsWithin}
use Rattle.bs_heap.specs.Fullness.{AreFull}
use Rattle.bs_heap.specs.Heap.{Heap}
use Rattle.bs_heap.specs.PackedPlaces.{AreApart}

-- the value of a heap, from its fields
abbrev pub heap_in : {most : ℕ} → Inside most → Heap
heap_in h =
    record {
      tag = h.blocks.tag;
      quota = h.quota;
      records = records_in h.blocks h.index.items;
      packing = packing_in h.blocks h.index.items;
      index_room = vec_capacity h.index - vec_len h.index;
    }

-- the last record lies in the current block, and without records there is no block
pub record IsIndexed (blocks : Blocks) (index : List Entry) : Type 0 where
  pub within : All (IsWithin blocks) index
  pub last : (d : Entry) → 0 < length index → (slice_index_or index (length index - 1) d).position ≡ length blocks.closed
  pub none : length index ≡ 0 → length (all_blocks blocks) ≡ 0

-- the invariant of a heap
pub record IsHeap (cap : ℕ) {most : ℕ} (h : Inside most) : Type 0 where
  pub wide : MOST_RECORD_BYTES < cap
  pub indexed : IsIndexed h.blocks h.index.items
  pub charge : h.charge ≡ charge_of (records_in h.blocks h.index.items)
  pub within : h.charge ≤ h.quota
  pub full : AreFull cap h.charge (packing_in h.blocks h.index.items)
  pub apart : AreApart (packing_in h.blocks h.index.items)
  pub room : blocks_for cap h.quota ≤ h.blocks.room
