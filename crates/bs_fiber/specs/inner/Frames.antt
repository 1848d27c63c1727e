-- What private contracts add to specs/Frames.
use Rattle.std.specs.Prelude.{◌≡◌, ℕ, ◌+◌, ◌≤◌, List, length, map, All}
use Rattle.bs_block.specs.Bytes.{range}
use Rattle.bs_board.specs.declared.boards.snake.Snake.{Snake}
use Rattle.bs_board.specs.records.FitSnake.{IsFitSnake}
use Rattle.bs_board.specs.records.Record.{snake_record}
use Rattle.bs_fiber.specs.declared.piece.Piece.{Piece}
use Rattle.bs_fiber.specs.Frames.{frame_of, pieces_from}

-- the piece of these bytes is that snake's record
pub record IsPieceOf (bytes : List ℕ) (p : Piece) (s : Snake) : Type 0 where
  pub there : p.at + p.len ≤ length bytes
  pub is : range p.at p.len bytes ≡ snake_record s

-- the block holds the records of these snakes, at these places
pub record HoldsSnakes (snakes : List Snake) (pieces : List Piece) (block : List ℕ) : Type 0 where
  pub fit : All IsFitSnake snakes
  pub pieces_are : pieces ≡ pieces_from 0 snakes
  pub block_is : block ≡ frame_of snakes

-- the same for the blocks of all parts
pub record HoldAll (parts : List (List Snake)) (places : List (List Piece)) (blocks : List (List ℕ)) : Type 0 where
  pub fit : All (All IsFitSnake) parts
  pub places_are : places ≡ map (pieces_from 0) parts
  pub blocks_are : blocks ≡ map frame_of parts

-- some parts, each of two snakes at most
pub record AreFewAndFit (parts : List (List Snake)) : Type 0 where
  pub some : 1 ≤ length parts
  pub few : All (λ part. length part ≤ 2) parts
  pub fit : All (All IsFitSnake) parts
