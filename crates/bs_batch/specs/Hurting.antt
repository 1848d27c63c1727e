-- What hazards do to a board in which the snakes have eaten.
use Rattle.std.specs.Prelude.{ℕ, ◌+◌, ◌-◌, ◌*◌, ◌==◌, Bool, ◌&&◌, not, if◌then◌else◌, List, map, slice_index}
use Rattle.bs_board.specs.declared.boards.board.Board.{Board}
use Rattle.bs_board.specs.declared.boards.point.Point.{Point}
use Rattle.bs_board.specs.declared.boards.snake.Snake.{Snake}
use Rattle.bs_board.specs.boards.Cell.{cell_index, head_of, is_on_board}
use Rattle.bs_board.specs.boards.Over.{is_living}
use Rattle.bs_rules.specs.Elimination.{judged}
use Rattle.bs_rules.specs.Hurting.{hazard_verdict}

-- the byte of a cell of the board, 0 off the board
abbrev pub count_on : ℕ → ℕ → List ℕ → Point → ℕ
count_on width height counts p = if is_on_board width height p then slice_index counts (cell_index width p) else 0

-- another health; the snake is out if none is left
abbrev pub with_health : ℕ → ℕ → Snake → Snake
with_health turn health s = judged turn (hazard_verdict health) (record s { health = health })

-- lives, has not just eaten, and has its head on hazards
abbrev pub is_hurt_by : ℕ → Snake → Bool
is_hurt_by count s = is_living s && (not (s.health == 100) && not (count == 0))

abbrev pub hurt_by_count : ℕ → ℕ → ℕ → Snake → Snake
hurt_by_count turn damage count s = if is_hurt_by count s then with_health turn (s.health - damage * count) s else s

abbrev pub hurt_at : List ℕ → ℕ → Board → Snake → Snake
hurt_at counts damage b s = hurt_by_count (b.turn + 1) damage (count_on b.width b.height counts (head_of s.body)) s

-- the board's turn number is still that of the turn before
abbrev pub hurt_all : List ℕ → ℕ → Board → Board
hurt_all counts damage b = record b { snakes = map (hurt_at counts damage b) b.snakes }
