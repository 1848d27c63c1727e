-- The blocks that are reserved for a stay, of `cap` bytes each.
use Rattle.std.specs.Prelude.{ℕ, ◌+◌, List, sum_by}
use Rattle.bs_board.specs.plans.Plan.{GameRow}
use Rattle.bs_heap.specs.Charge.{blocks_for}
use Rattle.bs_registry.specs.declared.blocks.TheConstants.{FRAME_BLOCKS}

abbrev pub record_blocks : ℕ → GameRow → ℕ
record_blocks cap row = blocks_for cap row.quota

abbrev pub blocks_of : ℕ → GameRow → ℕ
blocks_of cap row = record_blocks cap row + FRAME_BLOCKS

abbrev pub blocks_of_all : ℕ → List GameRow → ℕ
blocks_of_all cap = sum_by (blocks_of cap)
