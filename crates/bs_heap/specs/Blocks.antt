-- The blocks of one tag with their bytes.
use Rattle.std.specs.Prelude.{ℕ, List, Option}

-- a block's number in its pool, and its bytes
pub record NumberedBlock : Type 0 where
  pub number : ℕ
  pub bytes : List ℕ

-- the blocks of a tag in the order in which they were drawn
pub record Blocks : Type 0 where
  pub tag : ℕ
  -- how many closed blocks the list has memory for
  pub room : ℕ
  pub closed : List NumberedBlock
  pub current : Option NumberedBlock
