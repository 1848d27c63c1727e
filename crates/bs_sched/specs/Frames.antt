-- The keys and the frame blocks of one game, by part of the move in progress.
use Rattle.std.specs.Prelude.{ℕ, List, [], ◌∷◌, Option, Some, None}
use Rattle.bs_board.specs.declared.boards.snake.Snake.{Snake}
use Rattle.bs_counter.specs.Keys.{Key, TallyId}
use Rattle.bs_fiber.specs.declared.piece.Piece.{Piece}
use Rattle.bs_fiber.specs.Frames.{frame_of, pieces_from}

-- what a part wrote: its block's bytes, and the places of the moved snakes there
pub record Written : Type 0 where
  pub pieces : List Piece
  pub bytes : List ℕ

abbrev pub written : List Snake → Written
written snakes = record { pieces = pieces_from 0 snakes; bytes = frame_of snakes }

pub record FramesView : Type 0 where
  pub tag : ℕ
  -- the tally of the newest taken command; none unless that is a move in a game that is not over
  pub tally : Option TallyId
  -- the keys for the parts of the begun command, if that may be an accepted move
  pub keys : List Key
  -- the number of the block that was drawn for each part
  pub numbers : List (Option ℕ)
  -- what each completed part wrote, until the Join has it
  pub moved : List (Option Written)

abbrev pub flattened : {X : Type 0} → List (Option X) → List X
flattened [] = []
flattened (None ∷ xs) = flattened xs
flattened (Some x ∷ xs) = x ∷ flattened xs
