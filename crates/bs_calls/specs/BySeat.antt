-- A turn with a byte for each seat.
use Rattle.std.specs.Prelude.{ℕ, List, [], ◌∷◌, map, take, pos, Option, Some, None, if◌then◌else◌, nat_eq}
use Rattle.bs_batch.specs.declared.layout.Cell.{Cell}
use Rattle.bs_board.specs.declared.boards.point.Direction.{Direction}
use Rattle.bs_board.specs.declared.boards.point.Direction.TheVariants.{Up, Down, Left, Right}
use Rattle.bs_board.specs.declared.boards.point.Point.{Point}
use Rattle.bs_board.specs.declared.boards.board.Board.{Board}
use Rattle.bs_board.specs.declared.boards.snake.Snake.{Snake}
use Rattle.bs_board.specs.declared.limits.TheConstants.{MOST_WORDS}
use Rattle.bs_board.specs.commands.Orders.{Orders}
use Rattle.bs_calls.specs.declared.orders.SeatOrders.{SeatOrders}
use Rattle.bs_rules.specs.Turn.{turn_of}

abbrev pub point_of : Cell → Point
point_of c = record { x = pos c.x; y = pos c.y }

-- the cells, if the byte is not 0
abbrev pub points_if : ℕ → List Cell → Option (List Point)
points_if flag cells = if nat_eq flag 0 then None else Some (map point_of cells)

-- 0 to 3 are up, down, left and right; any other byte gives no direction
abbrev pub direction_from : ℕ → Option Direction
direction_from byte =
    if nat_eq byte 0 then Some Up
    else if nat_eq byte 1 then Some Down
    else if nat_eq byte 2 then Some Left
    else if nat_eq byte 3 then Some Right
    else None

-- the direction of one seat before those of the others
abbrev pub in_front : Option Direction → List ℕ → List (List ℕ × Direction) → List (List ℕ × Direction)
in_front None id others = others
in_front (Some direction) id others = (id, direction) ∷ others

-- the directions of the seats, as a move names them
abbrev pub moves_by_seat : List ℕ → List Snake → List (List ℕ × Direction)
moves_by_seat [] snakes = []
moves_by_seat (byte ∷ bytes) [] = []
moves_by_seat (byte ∷ bytes) (s ∷ snakes) = in_front (direction_from byte) s.id (moves_by_seat bytes snakes)

-- a move without directions: the first 32 words, and what is given of the map
abbrev pub rest_of : SeatOrders → Orders
rest_of o = record {
  moves = [];
  words = take MOST_WORDS o.words.now;
  hazards = points_if o.has_hazards o.hazards.now;
  food = points_if o.has_food o.food.now;
}

-- the board after a turn with these directions
unfoldable pub turn_with : List ℕ → Orders → Board → Board
turn_with bytes rest b = turn_of b (record rest { moves = moves_by_seat bytes b.snakes })

abbrev pub turn_by_seat : SeatOrders → Board → Board
turn_by_seat o b = turn_with o.moves.now (rest_of o) b
