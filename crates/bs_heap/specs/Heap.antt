-- A heap: the records of one tag within a quota, and where they lie.
use Rattle.std.specs.Prelude.{ℕ, ◌+◌, ◌-◌, List, [], ◌∷◌, ◌++◌, length}
use Rattle.bs_heap.specs.Packing.{Packing, no_packing, packed, packing_of_last, last_alone}

pub record Heap : Type 0 where
  pub tag : ℕ
  pub quota : ℕ
  pub records : List (List ℕ)
  pub packing : Packing
  -- how many records can be added before the index has to grow
  pub index_room : ℕ

abbrev pub empty_heap : ℕ → ℕ → Heap
empty_heap tag quota = record { tag = tag; quota = quota; records = []; packing = no_packing; index_room = 0 }

abbrev pub with_index_room : ℕ → Heap → Heap
with_index_room n heap = record heap { index_room = n }

-- the heap with a record more; if it needs a new block, that has this number
abbrev pub with_record : ℕ → ℕ → List ℕ → Heap → Heap
with_record cap number bytes heap =
    record heap {
      records = heap.records ++ bytes ∷ [];
      packing = packed cap number (length bytes) heap.packing;
      index_room = heap.index_room - 1;
    }

-- only the last record is kept, at its place
abbrev pub with_last : Heap → Heap
with_last heap =
    record heap {
      records = last_alone heap.records;
      packing = packing_of_last heap.packing;
      index_room = heap.index_room + (length heap.records - 1);
    }

-- no record and no block is left
abbrev pub without_records : Heap → Heap
without_records heap = record heap { records = []; packing = no_packing; index_room = heap.index_room + length heap.records }
