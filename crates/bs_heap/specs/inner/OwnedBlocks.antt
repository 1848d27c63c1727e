-- How the blocks of a tag lie in their fields.
use Rattle.std.specs.Prelude.{◌≡◌, ℕ, map, All, IfSome, option_map, vec_capacity}
use Rattle.bs_pool.specs.declared.owned.Owned.{Owned}
use Rattle.bs_heap.specs.declared.blocks.TagBlocks.TheInside.{Inside}
use Rattle.bs_heap.specs.Blocks.{NumberedBlock, Blocks}

-- a block with its number, without its tag
abbrev pub numbered_block : {most : ℕ} → Owned most → NumberedBlock
numbered_block owned = record { number = owned.number; bytes = owned.block }

-- the value of a tag's blocks, from their fields
abbrev pub blocks_in : {most : ℕ} → Inside most → Blocks
blocks_in b = record { tag = b.tag; room = vec_capacity b.closed; closed = map numbered_block b.closed.items; current = option_map numbered_block b.current }

-- each block is the tag's
pub record AreTagged {most : ℕ} (b : Inside most) : Type 0 where
  pub closed : All (λ owned. owned.tag ≡ b.tag) b.closed.items
  pub current : IfSome b.current (λ owned. owned.tag ≡ b.tag)
