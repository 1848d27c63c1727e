-- How snakes grow in constrictor.
use Rattle.std.specs.Prelude.{ℕ, ◌-◌, Bool, ◌&&◌, not, if◌then◌else◌, List, [], ◌∷◌, ◌++◌, length, map, nat_le, slice_index_or}
use Rattle.bs_board.specs.declared.boards.point.Point.{Point}
use Rattle.bs_board.specs.declared.boards.board.Board.{Board}
use Rattle.bs_board.specs.declared.boards.snake.Snake.{Snake}
use Rattle.bs_board.specs.boards.Cell.{origin, is_same_cell}
use Rattle.bs_board.specs.declared.limits.TheConstants.{FULL_HEALTH}
use Rattle.bs_board.specs.boards.Over.{is_living}

-- the part that many places before the end
abbrev pub part_from_end : ℕ → List Point → Point
part_from_end places body = slice_index_or body (length body - places) origin

-- its last two parts differ
abbrev pub is_stretched : List Point → Bool
is_stretched body = nat_le 2 (length body) && not (is_same_cell (part_from_end 1 body) (part_from_end 2 body))

-- the last part is repeated where the last two differ
unfoldable pub grown_body : List Point → List Point
grown_body body = if is_stretched body then body ++ part_from_end 1 body ∷ [] else body

-- a living snake has full health again and grows; one that is out is unchanged
abbrev pub grown_snake : Snake → Snake
grown_snake s = if is_living s then record s { health = FULL_HEALTH; body = grown_body s.body } else s

abbrev pub grown : Board → Board
grown b = record b { snakes = map grown_snake b.snakes }
