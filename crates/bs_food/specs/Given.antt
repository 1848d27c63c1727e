-- Food that a move gives.
use Rattle.std.specs.Prelude.{Bool, ◌&&◌, if◌then◌else◌, List, fold, Option, Some, None}
use Rattle.bs_board.specs.declared.boards.point.Point.{Point}
use Rattle.bs_board.specs.declared.boards.board.Board.{Board}
use Rattle.bs_board.specs.boards.Cell.{is_on_board}
use Rattle.bs_food.specs.Free.{is_free_cell}
use Rattle.bs_food.specs.Spawning.{with_new_food}

-- a free cell of the board
abbrev pub is_open : Board → Point → Bool
is_open b cell = is_on_board b.width b.height cell && is_free_cell b cell

-- food on the cell, if it is free
unfoldable pub with_given_food : Board → Point → Board
with_given_food b cell = if is_open b cell then with_new_food b cell else b

-- food on each of the cells that is free when its turn comes
unfoldable pub all_given : List Point → Board → Board
all_given cells b = fold with_given_food b cells

abbrev pub given : Option (List Point) → Board → Board
given None b = b
given (Some cells) b = all_given cells b
