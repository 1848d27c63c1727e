-- What the entries of an index read in the blocks of a tag.
use Rattle.std.specs.Prelude.{◌≡◌, ℕ, ◌+◌, ◌≤◌, ◌<◌, List, [], ◌∷◌, length, map, option_map}
use Rattle.bs_block.specs.Bytes.{range}
use Rattle.bs_heap.specs.declared.blocks.Entry.{Entry}
use Rattle.bs_heap.specs.Blocks.{Blocks}
use Rattle.bs_heap.specs.inner.Blocks.{all_blocks, block_at, use_of}
use Rattle.bs_heap.specs.Packing.{Place, Packing, packed}

-- the bytes of a record
abbrev pub entry_bytes : Blocks → Entry → List ℕ
entry_bytes blocks e = range e.at e.len (block_at blocks e.position).bytes

-- where a record lies
abbrev pub entry_place : Blocks → Entry → Place
entry_place blocks e = record { number = (block_at blocks e.position).number; at = e.at; len = e.len }

-- the records of an index, and where they lie
abbrev pub records_in : Blocks → List Entry → List (List ℕ)
records_in blocks index = map (entry_bytes blocks) index

abbrev pub packing_in : Blocks → List Entry → Packing
packing_in blocks index = record { closed = map use_of blocks.closed; current = option_map use_of blocks.current; places = map (entry_place blocks) index }

-- the record lies in its block
abbrev pub IsWithin : Blocks → Entry → Type 0
IsWithin blocks e = (e.position < length (all_blocks blocks)) × (e.at + e.len ≤ length (block_at blocks e.position).bytes)

-- the entry reads the same bytes at the same place
pub record ReadsTheSame (old new : Blocks) (e : Entry) : Type 0 where
  pub within : IsWithin new e
  pub bytes : entry_bytes new e ≡ entry_bytes old e
  pub place : entry_place new e ≡ entry_place old e

-- A record is put into the blocks: its entry reads its bytes, in the current block, and each other
-- entry reads the same as before. Its place, and whether a block of that number is opened for it,
-- are those of the packing.
pub record PutsRecord (cap number : ℕ) (bytes : List ℕ) (old new : Blocks) (entry : Entry) : Type 0 where
  pub tag : new.tag ≡ old.tag
  pub room : new.room ≡ old.room
  pub within : IsWithin new entry
  pub reads : entry_bytes new entry ≡ bytes
  pub last : entry.position ≡ length new.closed
  pub others : (e : Entry) → IsWithin old e → ReadsTheSame old new e
  pub packing : packing_in new (entry ∷ []) ≡ packed cap number (length bytes) (packing_in old [])
