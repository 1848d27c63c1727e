-- The steps in which a record is put into the blocks of its tag.
use Rattle.std.specs.Prelude.{ℕ, List, [], ◌++◌, length, Some, option_map, unwrap_or}
use Rattle.bs_block.specs.Bytes.{padded}
use Rattle.bs_heap.specs.declared.blocks.Entry.{Entry}
use Rattle.bs_heap.specs.Blocks.{NumberedBlock, Blocks}
use Rattle.bs_heap.specs.inner.Blocks.{all_blocks}

-- the current block is closed, and an empty one of that number opened
abbrev pub with_empty : ℕ → Blocks → Blocks
with_empty number blocks = record blocks { closed = all_blocks blocks; current = Some (record { number = number; bytes = [] }) }

-- bytes are appended to the current block
abbrev pub with_bytes : List ℕ → NumberedBlock → NumberedBlock
with_bytes bytes b = record b { bytes = b.bytes ++ padded bytes }

abbrev pub written : List ℕ → Blocks → Blocks
written bytes blocks = record blocks { current = option_map (with_bytes bytes) blocks.current }

-- where the next len bytes lie
abbrev pub next_entry : ℕ → Blocks → Entry
next_entry len blocks = record { position = length blocks.closed; at = unwrap_or (option_map (λ b. length b.bytes) blocks.current) 0; len = len }
