-- A turn in which no snake goes out.
use Rattle.std.specs.Prelude.{◌≡◌, ℕ, ◌<◌, ◌≤◌, true, false, not, ◌&&◌, cond, List, [], ◌∷◌, ◌++◌, take, drop, Option, map, flat_map, All}
use Rattle.std.specs.List.{list_any}
use Rattle.bs_board.specs.declared.boards.board.Board.{Board}
use Rattle.bs_board.specs.declared.boards.board.Mode.{Mode}
use Rattle.bs_board.specs.declared.boards.board.Mode.TheVariants.{Standard, Solo, Constrictor, Wrapped}
use Rattle.bs_board.specs.declared.boards.point.Direction.{Direction}
use Rattle.bs_board.specs.declared.boards.point.Point.{Point}
use Rattle.bs_board.specs.declared.boards.snake.Snake.{Snake}
use Rattle.bs_board.specs.boards.Cell.{head_of, is_on_board, is_same_cell}
use Rattle.bs_board.specs.boards.Over.{is_living}
use Rattle.bs_board.specs.boards.Wrap.{wrap_of}
use Rattle.bs_board.specs.commands.Orders.{given_to}
use Rattle.bs_board.specs.records.Layout.{cells_of}
use Rattle.bs_board.specs.records.Writing.{IsWritable}
use Rattle.bs_modes.specs.Growth.{grown_snake}
use Rattle.bs_rules.specs.Feeding.{fed_snake}
use Rattle.bs_rules.specs.Motion.{moved}
use Rattle.bs_plane.specs.declared.cell.Cell.{Cell}
use Rattle.bs_plane.specs.declared.plane.Plane.{Plane}
use Rattle.bs_plane.specs.Plane.{Shows, contents}
use Rattle.bs_rules.specs.Collision.{snake_at}
use Rattle.bs_board.specs.records.Record.{snake_record}

-- in constrictor a snake grows at the end of the turn
abbrev pub grown_in : Mode → Snake → Snake
grown_in Standard s = s
grown_in Solo s = s
grown_in Constrictor s = grown_snake s
grown_in Wrapped s = s

-- a snake after the turn, if it does not go out
abbrev pub onward_by : Board → Option Direction → Snake → Snake
onward_by b given s = grown_in b.mode (fed_snake b.food (moved (wrap_of b) given s))

abbrev pub onward : Board → List (List ℕ × Direction) → Snake → Snake
onward b moves s = onward_by b (given_to moves s.id) s

-- what keeps a living snake in the game, but for collisions
pub record LivesOn (b : Board) (given : Option Direction) (s : Snake) : Type 0 where
  pub on : is_on_board b.width b.height (head_of (moved (wrap_of b) given s).body) ≡ true
  pub unhurt : (list_any (is_same_cell (head_of (moved (wrap_of b) given s).body)) (cells_of b.hazards)
      && not (list_any (is_same_cell (head_of (moved (wrap_of b) given s).body)) b.food)) ≡ false
  pub fed : 1 ≤ (fed_snake b.food (moved (wrap_of b) given s)).health

-- the plane of a board with other snakes
pub record ShowsSnakes (b : Board) (snakes : List Snake) (plane : Plane) : Type 0 where
  pub width : plane.width ≡ b.width
  pub height : plane.height ≡ b.height
  pub cells : Shows (contents b.food (cells_of b.hazards) snakes) plane

-- the head of a snake that lives
abbrev pub living_head : Snake → List Point
living_head s = cond (is_living s) (head_of s.body ∷ []) []

-- the heads of the living snakes, in the order of the seats
abbrev pub living_heads : List Snake → List Point
living_heads = flat_map living_head

-- the snakes of the seats below `count` moved, on the plane and in bytes, and their heads listed
pub record MovesSnakes (count : ℕ) (b : Board) (moves : List (List ℕ × Direction)) (plane : Plane) (bytes bytes' : List ℕ) (heads heads' : List Point) : Type 0 where
  pub shows : ShowsSnakes b (map (onward b moves) (take count b.snakes) ++ drop count b.snakes) plane
  pub written : bytes' ≡ bytes ++ flat_map snake_record (map (onward b moves) (take count b.snakes))
  pub listed : heads' ≡ heads ++ living_heads (map (onward b moves) (take count b.snakes))
  pub lives : (seat : ℕ) → seat < count → is_living (snake_at b.snakes seat) ≡ true → LivesOn b (given_to moves (snake_at b.snakes seat).id) (snake_at b.snakes seat)
  pub fits : (seat : ℕ) → seat < count → IsWritable (onward b moves (snake_at b.snakes seat))

-- each head is the only part on its cell
abbrev pub AreAlone : List Point → Plane → Type 0
AreAlone heads plane = (on : Point → Cell) → Shows on plane → All (λ head. (on head).parts ≡ 1) heads
