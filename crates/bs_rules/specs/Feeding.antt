-- What snakes eat in a turn.
use Rattle.std.specs.Prelude.{◌≡◌, ◌↔◌, ◌-◌, Bool, true, Contains, not, ◌&&◌, if◌then◌else◌, List, [], ◌∷◌, ◌++◌, length, map, filter, slice_index_or}
use Rattle.std.specs.List.{Any, list_any}
use Rattle.bs_board.specs.declared.boards.point.Point.{Point}
use Rattle.bs_board.specs.declared.boards.board.Board.{Board}
use Rattle.bs_board.specs.declared.boards.snake.Snake.{Snake}
use Rattle.bs_board.specs.boards.Cell.{origin, head_of, is_same_cell}
use Rattle.bs_board.specs.declared.limits.TheConstants.{FULL_HEALTH}
use Rattle.bs_board.specs.boards.Over.{is_living}

abbrev pub last_of : List Point → Point
last_of body = slice_index_or body (length body - 1) origin

-- lives, with its head on this cell
abbrev pub has_head_on : Point → Snake → Bool
has_head_on cell s = is_living s && is_same_cell (head_of s.body) cell

-- lives, with its head on food
abbrev pub eats : List Point → Snake → Bool
eats food s = is_living s && list_any (is_same_cell (head_of s.body)) food

-- full health again, and the last part once more
abbrev pub fed_snake : List Point → Snake → Snake
fed_snake food s = if eats food s then record s { body = s.body ++ last_of s.body ∷ []; health = FULL_HEALTH } else s

-- the food that no living head is on, in its order
abbrev pub food_left : List Snake → List Point → List Point
food_left snakes food = filter (λ cell. not (list_any (has_head_on cell) snakes)) food

-- all heads on food eat, also two on the same
abbrev pub fed : Board → Board
fed b = record b { food = food_left b.snakes b.food; snakes = map (fed_snake b.food) b.snakes }

-- Which food is left, stated cell by cell and without the order of the lists.

-- a living snake has its head on the cell
abbrev pub IsUnderHead : List Snake → Point → Type 0
IsUnderHead snakes cell = Any (λ s. (is_living s ≡ true) × (head_of s.body ≡ cell)) snakes

-- the food that is gone lies under a living head, and no other food is gone
abbrev pub LeavesFood : Board → Board → Type 0
LeavesFood old now = (cell : Point) → Contains now.food cell ↔ (Contains old.food cell × ¬ IsUnderHead old.snakes cell)
