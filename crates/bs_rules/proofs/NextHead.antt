-- A step from the head and the part behind it is the step of the whole body.
use Rattle.std.proofs.Common.{◌≡◌, ℕ, ◌≤◌, true, Option, Some, None, [], ◌∷◌, length, refl}
use Rattle.bs_board.specs.declared.boards.point.Direction.{Direction}
use Rattle.bs_board.specs.declared.boards.snake.Snake.{Snake}
use Rattle.bs_board.specs.boards.Cell.{head_of}
use Rattle.bs_board.specs.boards.Over.{is_living}
use Rattle.bs_board.specs.records.Stepped.{stepped}
use Rattle.bs_rules.specs.Motion.{direction_taken, moved, neighbor, second_of}

-- a snake that steps there is the snake moved
pub stepped_is_moved : (wrap : Option (ℕ × ℕ)) (given : Option Direction) (s : Snake) → is_living s ≡ true → 3 ≤ length s.body
    → stepped (neighbor wrap (head_of s.body) (direction_taken wrap given (head_of s.body ∷ second_of s.body ∷ []))) s ≡ moved wrap given s
stepped_is_moved wrap (Some direction) s lives long = rw lives refl
stepped_is_moved wrap None s lives long = rw lives refl
