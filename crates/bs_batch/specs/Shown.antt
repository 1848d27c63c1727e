-- Which board the memory of a game shows.
use Rattle.std.specs.Prelude.{◌≡◌, ℕ, ◌+◌, ◌*◌, ◌/◌, ◌<◌, ◌≤◌, true, cond, List, length, take, drop, All, count_by, sum_by, Option, Some, None, unwrap_or, slice_index_or}
use Rattle.std.specs.List.{list_any}
use Rattle.bs_board.specs.declared.boards.point.Point.{Point}
use Rattle.bs_board.specs.declared.boards.board.Board.{Board}
use Rattle.bs_board.specs.declared.boards.snake.Snake.{Snake}
use Rattle.bs_board.specs.declared.limits.TheConstants.{LAST_TURN}
use Rattle.bs_board.specs.boards.Cell.{is_same_cell}
use Rattle.bs_board.specs.boards.Legal.{is_near}
use Rattle.bs_board.specs.boards.Over.{is_living, is_over}
use Rattle.bs_board.specs.records.Record.{cause_byte, mode_byte}
use Rattle.bs_rules.specs.Collision.{snake_at}
use Rattle.bs_batch.specs.declared.layout.Head.{Head}
use Rattle.bs_batch.specs.declared.layout.Seat.{Seat}
use Rattle.bs_batch.specs.declared.layout.Settings.{Settings}
use Rattle.bs_batch.specs.Counts.{HasBytes}
use Rattle.bs_batch.specs.Numbers.{numbers_of}

pub record ShowsSettings (s : Settings) (b : Board) : Type 0 where
  pub mode : s.mode ≡ mode_byte b.mode
  pub width : s.width ≡ b.width
  pub height : s.height ≡ b.height
  pub seats : s.seats ≡ length b.snakes
  pub min_food : s.min_food ≡ b.min_food
  pub chance : s.chance ≡ b.chance

abbrev pub seat_byte : Option ℕ → ℕ
seat_byte None = 255
seat_byte (Some seat) = seat

-- a seat with its room shows a snake, apart from its id
pub record ShowsSnake (seat : Seat) (room : List ℕ) (s : Snake) : Type 0 where
  pub parts : seat.parts ≡ length s.body
  pub body : take (length s.body) room ≡ numbers_of s.body
  pub health : seat.health ≡ s.health
  pub cause : seat.cause ≡ cause_byte s.cause
  pub killer : seat.killer ≡ seat_byte s.killer
  pub out : seat.out ≡ unwrap_or s.out 0

-- what stands for a seat that does not exist
abbrev pub no_seat : Seat
no_seat = record { parts = 0; out = 0; health = 0; cause = 0; killer = 0; spare = 0 }

abbrev pub seat_at : List Seat → ℕ → Seat
seat_at seats seat = slice_index_or seats seat no_seat

-- the room of a seat is an eighth of the bodies
abbrev pub room_of : List ℕ → ℕ → List ℕ
room_of bodies seat = take (length bodies / 8) (drop (seat * (length bodies / 8)) bodies)

-- each seat shows its snake
abbrev pub ShowsSnakes : List Seat → List ℕ → List Snake → Type 0
ShowsSnakes seats bodies snakes =
    (seat : ℕ) → seat < length snakes → ShowsSnake (seat_at seats seat) (room_of bodies seat) (snake_at snakes seat)

-- the parts of a living snake on a cell
abbrev pub parts_on : Point → Snake → ℕ
parts_on cell s = cond (is_living s) (count_by (is_same_cell cell) s.body) 0

abbrev pub occupants : List Snake → Point → ℕ
occupants snakes cell = sum_by (parts_on cell) snakes

abbrev pub food_byte : List Point → Point → ℕ
food_byte food cell = cond (list_any (is_same_cell cell) food) 128 0

abbrev pub byte_of : List Point → List Snake → Point → ℕ
byte_of food snakes cell = occupants snakes cell + food_byte food cell

-- The settings, the turn, the seats, the bodies and the plane are those of a board. Within a turn
-- the list of food and the number of living snakes may be older.
pub record ShowsSeats (head : Head) (plane bodies : List ℕ) (b : Board) : Type 0 where
  pub settings : ShowsSettings head.settings b
  pub turn : head.turn ≡ b.turn
  pub eight : length head.seats ≡ 8
  pub snakes : ShowsSnakes head.seats bodies b.snakes
  pub counts : HasBytes b.width b.height (byte_of b.food b.snakes) plane

-- the first cells of the list have the food, in its order
pub record ShowsFood (foods : ℕ) (cells : List ℕ) (food : List Point) : Type 0 where
  pub count : foods ≡ length food
  pub listed : take (length food) cells ≡ numbers_of food

-- the memory of a game shows a board
pub record ShowsGame (head : Head) (cells plane bodies : List ℕ) (b : Board) : Type 0 where
  pub seats : ShowsSeats head plane bodies b
  pub food : ShowsFood head.foods cells b.food
  pub living : head.living ≡ count_by is_living b.snakes
  pub over : head.over ≡ cond (is_over b) 1 0

-- a body of three parts or more, each on the board or next to it
pub record HasBody (width height : ℕ) (s : Snake) : Type 0 where
  pub long : 3 ≤ length s.body
  pub near : All (λ p. is_near width height p ≡ true) s.body

-- one more turn, and as many more parts on each cell: the parts of a cell stay below the bit of the
-- food
pub record HasRoom (more : ℕ) (b : Board) : Type 0 where
  pub narrow : b.width ≤ 25
  pub early : b.turn < LAST_TURN
  pub bodies : All (HasBody b.width b.height) b.snakes
  pub few : (p : Point) → occupants b.snakes p + more < 128

-- a step of a turn that is exact on a board with this room, and leaves its bodies
abbrev pub ChangesBoard : (Board → Board) → List ℕ → Head → List ℕ → Head → List ℕ → Type 0
ChangesBoard change bodies head plane head' plane' =
    (b : Board) → ShowsSeats head plane bodies b → HasRoom 0 b → ShowsSeats head' plane' bodies (change b)
