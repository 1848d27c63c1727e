-- A snake that moves one step.
use Rattle.std.specs.Prelude.{◌≡◌, ◌-◌, ◌≤◌, true, ◌∷◌, length, take}
use Rattle.bs_board.specs.declared.boards.point.Point.{Point}
use Rattle.bs_board.specs.declared.boards.snake.Snake.{Snake}
use Rattle.bs_board.specs.boards.Over.{is_living}
use Rattle.bs_board.specs.records.Writing.{IsWritable}

-- with that head, without its last part, and with one health less
abbrev pub stepped : Point → Snake → Snake
stepped head s = record s { body = head ∷ take (length s.body - 1) s.body; health = s.health - 1 }

-- a living snake with a part to lose
pub record CanStep (s : Snake) : Type 0 where
  pub fits : IsWritable s
  pub lives : is_living s ≡ true
  pub some : 1 ≤ length s.body
