-- The boards on which each later turn is exact.
use Rattle.std.specs.Prelude.{◌≡◌, ℕ, ◌-◌, ◌≤◌, true, List, length, take, All, count_by, sum_by}
use Rattle.bs_board.specs.declared.boards.point.Point.{Point}
use Rattle.bs_board.specs.declared.boards.board.Board.{Board}
use Rattle.bs_board.specs.declared.boards.snake.Snake.{Snake}
use Rattle.bs_board.specs.boards.Cell.{is_same_cell}
use Rattle.bs_board.specs.boards.Legal.{IsLegal}
use Rattle.bs_board.specs.boards.Over.{is_living}
use Rattle.bs_board.specs.commands.Setup.{Setup, is_fit_setup}
use Rattle.bs_food.specs.Free.{all_cells}
use Rattle.bs_modes.specs.FirstBoard.{first_board}

-- the parts before the last one on a cell
abbrev pub parts_before_last : Point → List Point → ℕ
parts_before_last cell body = count_by (is_same_cell cell) (take (length body - 1) body)

-- the number of parts before the last one that share their cell with an earlier part
abbrev pub crossings : ℕ → ℕ → List Point → ℕ
crossings width height body = sum_by (λ cell. parts_before_last cell body - 1) (all_cells width height)

-- At the start three parts are on one cell, which is one crossing, and no turn adds one to a snake
-- that lives on. So a body has at most two parts more than the board has cells.
abbrev pub CrossesLittle : ℕ → ℕ → Snake → Type 0
CrossesLittle width height s = is_living s ≡ true → crossings width height s.body ≤ 1

-- a legal board, whose living bodies hardly cross themselves
pub record IsLasting (b : Board) : Type 0 where
  pub legal : IsLegal b
  pub bodies : All (CrossesLittle b.width b.height) b.snakes

-- the board of a new game is lasting
abbrev pub FirstLaw : Type 0
FirstLaw = (s : Setup) → is_fit_setup s ≡ true → IsLasting (first_board s)
