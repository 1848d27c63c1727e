-- The bytes of moved snakes in a frame block: the record of each snake after the one before, each
-- with zeros up to its rounded size.
use Rattle.std.specs.Prelude.{ℕ, ◌+◌, List, [], ◌∷◌, ◌++◌, length}
use Rattle.bs_block.specs.Bytes.{padded}
use Rattle.bs_block.specs.Rounding.{rounded}
use Rattle.bs_board.specs.declared.boards.snake.Snake.{Snake}
use Rattle.bs_board.specs.records.Record.{snake_record}
use Rattle.bs_fiber.specs.declared.piece.Piece.{Piece}

-- all bytes of the block
unfoldable pub frame_of : List Snake → List ℕ
frame_of [] = []
frame_of (s ∷ snakes) = padded (snake_record s) ++ frame_of snakes

-- where the record of each snake lies; that of the first one begins at `at`
unfoldable pub pieces_from : ℕ → List Snake → List Piece
pieces_from at [] = []
pieces_from at (s ∷ snakes) = record { at = at; len = length (snake_record s) } ∷ pieces_from (at + rounded (length (snake_record s))) snakes
