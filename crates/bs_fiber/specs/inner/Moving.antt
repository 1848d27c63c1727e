-- What private contracts say of the seats that a part moves.
use Rattle.std.specs.Prelude.{◌≡◌, ℕ, ◌≤◌, List, ◌++◌, length, Option}
use Rattle.bs_board.specs.declared.boards.point.Direction.{Direction}
use Rattle.bs_board.specs.declared.boards.snake.Snake.{Snake}
use Rattle.bs_board.specs.boards.Wrap.{AreSides}
use Rattle.bs_board.specs.records.FitSnake.{IsFitSnake}
use Rattle.bs_board.specs.records.Record.{snake_record}
use Rattle.bs_board.specs.records.Writing.{IsWritable}
use Rattle.bs_rules.specs.Motion.{IsMovable, given_to, moved}

-- a snake that can be moved, whatever direction is given to it
pub record IsSeat (wrap : Option (ℕ × ℕ)) (s : Snake) : Type 0 where
  pub sides : AreSides wrap
  pub fits : IsWritable s
  pub body : IsMovable s
  pub long : 3 ≤ length s.body
  pub moved : (given : Option Direction) → IsFitSnake (moved wrap given s)

-- the records begin with that of the snake
pub record BeginWith (wrap : Option (ℕ × ℕ)) (s : Snake) (rest records : List ℕ) : Type 0 where
  pub seat : IsSeat wrap s
  pub bytes : records ≡ snake_record s ++ rest

-- the snake after its move
abbrev pub moved_by : Option (ℕ × ℕ) → List (List ℕ × Direction) → Snake → Snake
moved_by wrap moves s = moved wrap (given_to moves s.id) s
