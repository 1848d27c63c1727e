-- What hazards do in a turn.
use Rattle.std.specs.Prelude.{ℕ, ◌+◌, ◌-◌, ◌*◌, Bool, ◌&&◌, not, if◌then◌else◌, List, length, map, filter, take, count_by, nat_eq, Option, Some, None, option_map}
use Rattle.std.specs.List.{list_any}
use Rattle.bs_board.specs.declared.boards.point.Point.{Point}
use Rattle.bs_board.specs.declared.boards.board.Board.{Board}
use Rattle.bs_board.specs.declared.boards.hazards.Hazards.{Hazards}
use Rattle.bs_board.specs.declared.boards.snake.Snake.{Snake}
use Rattle.bs_board.specs.declared.boards.snake.Cause.TheVariants.{Hazard}
use Rattle.bs_board.specs.declared.limits.TheConstants.{MOST_HAZARDS}
use Rattle.bs_board.specs.boards.Cell.{head_of, is_on_board, is_same_cell}
use Rattle.bs_board.specs.boards.Over.{is_living}
use Rattle.bs_rules.specs.declared.verdict.Verdict.{Verdict}
use Rattle.bs_rules.specs.Elimination.{judged}

-- lives, with its head on a hazard and on no food
abbrev pub is_hurt : List Point → List Point → Snake → Bool
is_hurt cells food s =
    is_living s && (list_any (is_same_cell (head_of s.body)) cells && not (list_any (is_same_cell (head_of s.body)) food))

-- the damage is taken once for each time that the head's cell is in the list
abbrev pub health_left : Hazards → Snake → ℕ
health_left h s = s.health - h.damage * count_by (is_same_cell (head_of s.body)) h.cells

-- a snake that has no health left is out at once; there is no killer
abbrev pub hazard_verdict : ℕ → Option Verdict
hazard_verdict health = if nat_eq health 0 then Some (record { cause = Hazard; killer = None }) else None

abbrev pub hurt_by : Hazards → ℕ → Snake → Snake
hurt_by h turn s = judged turn (hazard_verdict (health_left h s)) (record s { health = health_left h s })

abbrev pub hurt_snake : Option Hazards → List Point → ℕ → Snake → Snake
hurt_snake None food turn s = s
hurt_snake (Some h) food turn s = if is_hurt h.cells food s then hurt_by h turn s else s

-- the board's turn number is still that of the turn before
abbrev pub hurt : Board → Board
hurt b = record b { snakes = map (hurt_snake b.hazards b.food (b.turn + 1)) b.snakes }

-- The hazards that a move gives.

-- those on the board, of as many as a board can have
abbrev pub cells_given : ℕ → ℕ → List Point → List Point
cells_given width height cells = filter (is_on_board width height) (take MOST_HAZARDS cells)

-- they stand in place of the old ones; a game without hazards stays without
abbrev pub hazards_after : ℕ → ℕ → Option (List Point) → Option Hazards → Option Hazards
hazards_after width height None old = old
hazards_after width height (Some cells) old = option_map (λ (h : Hazards). record h { cells = cells_given width height cells }) old
