-- Blocks with other numbers and another tag.
use Rattle.std.specs.Prelude.{ℕ, List, map, slice_index_or, option_map}
use Rattle.bs_pool.specs.declared.owned.Owned.{Owned}
use Rattle.bs_heap.specs.Blocks.{NumberedBlock, Blocks}

-- the number that stands in the list at the place of the old one
abbrev pub number_at : List ℕ → ℕ → ℕ
number_at numbers n = slice_index_or numbers n 0

abbrev pub renamed_owned : {most : ℕ} → ℕ → (ℕ → ℕ) → Owned most → Owned most
renamed_owned tag number owned = record { tag = tag; number = number owned.number; block = owned.block }

abbrev pub renamed_block : (ℕ → ℕ) → NumberedBlock → NumberedBlock
renamed_block number b = record { number = number b.number; bytes = b.bytes }

abbrev pub renamed_blocks : ℕ → (ℕ → ℕ) → Blocks → Blocks
renamed_blocks tag number blocks =
    record {
      tag = tag;
      room = blocks.room;
      closed = map (renamed_block number) blocks.closed;
      current = option_map (renamed_block number) blocks.current;
    }
