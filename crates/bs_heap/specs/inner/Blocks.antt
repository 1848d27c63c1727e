-- What private contracts add to specs/Blocks.
use Rattle.std.specs.Prelude.{ℕ, Bool, List, [], ◌++◌, length, map, slice_index_or, None, option_map, option_to_list}
use Rattle.bs_block.specs.Rounding.{rounded}
use Rattle.bs_heap.specs.Packing.{Use, fits}
use Rattle.bs_heap.specs.Blocks.{NumberedBlock, Blocks}

abbrev pub no_blocks : ℕ → ℕ → Blocks
no_blocks tag room = record { tag = tag; room = room; closed = []; current = None }

abbrev pub all_blocks : Blocks → List NumberedBlock
all_blocks blocks = blocks.closed ++ option_to_list blocks.current

-- the block at that position; an empty one if there is none
abbrev pub block_at : Blocks → ℕ → NumberedBlock
block_at blocks position = slice_index_or (all_blocks blocks) position (record { number = 0; bytes = [] })

abbrev pub block_numbers : List NumberedBlock → List ℕ
block_numbers = map (λ b. b.number)

abbrev pub use_of : NumberedBlock → Use
use_of b = record { number = b.number; used = length b.bytes }

-- a record of len bytes fits into the current block
abbrev pub fits_current : ℕ → ℕ → Blocks → Bool
fits_current cap len blocks = fits cap (rounded len) (option_map use_of blocks.current)
