-- When a game is over.
use Rattle.std.specs.Prelude.{ℕ, Bool, is_none, nat_le, count_by}
use Rattle.bs_board.specs.declared.boards.board.Board.{Board}
use Rattle.bs_board.specs.declared.boards.board.Mode.{Mode}
use Rattle.bs_board.specs.declared.boards.board.Mode.TheVariants.{Standard, Solo, Constrictor, Wrapped}
use Rattle.bs_board.specs.declared.boards.snake.Snake.{Snake}

abbrev pub is_living : Snake → Bool
is_living s = is_none s.cause

-- the largest number of living snakes with which a game is over
abbrev pub last_living : Mode → ℕ
last_living Standard = 1
last_living Solo = 0
last_living Constrictor = 1
last_living Wrapped = 1

abbrev pub is_over : Board → Bool
is_over b = nat_le (count_by is_living b.snakes) (last_living b.mode)
