-- What a step does to one seat, its room and the plane.
use Rattle.std.specs.Prelude.{◌≡◌, ℕ, ◌+◌, ◌/◌, ◌<◌, ◌≤◌, Bool, true, false, List, [], ◌∷◌, ◌++◌, length, All, slice_index_or}
use Rattle.bs_board.specs.declared.boards.point.Point.{Point}
use Rattle.bs_board.specs.declared.boards.snake.Snake.{Snake}
use Rattle.bs_board.specs.declared.boards.board.Board.{Board}
use Rattle.bs_board.specs.boards.Cell.{head_of, is_on_board}
use Rattle.bs_board.specs.boards.Over.{is_living}
use Rattle.bs_board.specs.boards.Wrap.{wrap_of}
use Rattle.bs_modes.specs.Growth.{grown, grown_snake, is_stretched}
use Rattle.bs_rules.specs.Collision.{map_seats, snake_at}
use Rattle.bs_rules.specs.Feeding.{eats, fed_snake, last_of}
use Rattle.bs_rules.specs.Motion.{moved}
use Rattle.bs_batch.specs.declared.layout.Head.{Head}
use Rattle.bs_batch.specs.declared.layout.Seat.{Seat}
use Rattle.bs_batch.specs.declared.layout.Settings.{Settings}
use Rattle.bs_batch.specs.Counts.{HasBytes}
use Rattle.bs_batch.specs.Directions.{given_by}
use Rattle.bs_batch.specs.Numbers.{HasSides, IsOn, number_of, sides_of}
use Rattle.bs_batch.specs.Shown.{HasBody, HasRoom, ShowsSeats, ShowsSnake, food_byte, parts_on}
use Rattle.bs_batch.specs.Eliminations.{with_snake}

-- the parts of one snake and of the others on a cell, and its food
abbrev pub byte_with : (Point → ℕ) → List Point → Snake → Point → ℕ
byte_with others food s p = others p + parts_on p s + food_byte food p

-- a seat that shows a living snake, whose parts the plane counts beside those of the others
pub record ShowsSeat (width height : ℕ) (others : Point → ℕ) (food : List Point) (seat : Seat) (room plane : List ℕ) (s : Snake) : Type 0 where
  pub shows : ShowsSnake seat room s
  pub alive : is_living s ≡ true
  pub body : HasBody width height s
  pub bytes : HasBytes width height (byte_with others food s) plane

-- room for as many parts in the body, and for as many on each cell
pub record SeatHasRoom (more : ℕ) (others : Point → ℕ) (room : List ℕ) (s : Snake) : Type 0 where
  pub short : length s.body + more ≤ length room
  pub small : length room < 65536
  pub few : (p : Point) → others p + parts_on p s + more < 128

-- the last part once more
abbrev pub repeated : Snake → Snake
repeated s = record s { body = s.body ++ last_of s.body ∷ [] }

abbrev pub RepeatsLast : Seat → List ℕ → List ℕ → Seat → List ℕ → List ℕ → Type 0
RepeatsLast seat room plane seat' room' plane' =
    (width height : ℕ) (others : Point → ℕ) (food : List Point) (s : Snake) → ShowsSeat width height others food seat room plane s
    → SeatHasRoom 1 others room s → ShowsSeat width height others food seat' room' plane' (repeated s)

-- a snake on the board moves one step, and its health falls
abbrev pub MovesSeat : Settings → ℕ → Seat → List ℕ → List ℕ → Seat → List ℕ → List ℕ → ℕ → Type 0
MovesSeat settings given seat room plane seat' room' plane' head =
    (others : Point → ℕ) (food : List Point) (s : Snake) → HasSides settings → ShowsSeat settings.width settings.height others food seat room plane s
    → SeatHasRoom 1 others room s → All (IsOn settings) s.body
    → ShowsSeat settings.width settings.height others food seat' room' plane' (moved (sides_of settings) (given_by given) s)
    × (head ≡ number_of (head_of (moved (sides_of settings) (given_by given) s).body))

-- a snake whose head is on food eats
abbrev pub FeedsSeat : Seat → List ℕ → List ℕ → ℕ → Seat → List ℕ → List ℕ → Bool → Type 0
FeedsSeat seat room plane head seat' room' plane' ate =
    (width height : ℕ) (others : Point → ℕ) (food : List Point) (s : Snake) → ShowsSeat width height others food seat room plane s
    → SeatHasRoom 1 others room s → head ≡ number_of (head_of s.body)
    → ShowsSeat width height others food seat' room' plane' (fed_snake food s) × (ate ≡ eats food s)

-- a snake moved by the byte of its seat, and fed
abbrev pub stepped : Board → ℕ → Snake → Snake
stepped b given s = fed_snake b.food (moved (wrap_of b) (given_by given) s)

-- the snake of a seat is on the board, and its room is longer than its body
pub record CanMove (bodies : List ℕ) (b : Board) (s : Snake) : Type 0 where
  pub on : All (λ p. is_on_board b.width b.height p ≡ true) s.body
  pub short : length s.body < length bodies / 8

-- sides of a board, lists of a size that fits the numbers, and a snake that can move if it lives
pub record CanMoveAt (bodies : List ℕ) (b : Board) (seat : ℕ) : Type 0 where
  pub wide : 1 ≤ b.width
  pub high : 1 ≤ b.height
  pub low : b.height ≤ 25
  pub small : length bodies < 65536
  pub snake : is_living (snake_at b.snakes seat) ≡ true → CanMove bodies b (snake_at b.snakes seat)

-- the seat's snake is moved and fed
pub record IsMovedAt (seat given : ℕ) (b : Board) (head' : Head) (bodies bodies' plane' : List ℕ) (ate : Bool) : Type 0 where
  pub shows : ShowsSeats head' plane' bodies' (with_snake b seat (stepped b given (snake_at b.snakes seat)))
  pub room : (more : ℕ) → HasRoom (more + 2) b → HasRoom more (with_snake b seat (stepped b given (snake_at b.snakes seat)))
  pub long : length bodies' ≡ length bodies
  pub eaten : ate ≡ eats b.food (moved (wrap_of b) (given_by given) (snake_at b.snakes seat))

abbrev pub MovesAt : ℕ → ℕ → Head → List ℕ → List ℕ → Head → List ℕ → List ℕ → Bool → Type 0
MovesAt seat given head bodies plane head' bodies' plane' ate =
    (b : Board) → ShowsSeats head plane bodies b → HasRoom 2 b → CanMoveAt bodies b seat → seat < length b.snakes
    → IsMovedAt seat given b head' bodies bodies' plane' ate

-- the snakes after a motion by a byte for each seat, straight on where there is none; the food stays
abbrev pub moved_by_seat : List ℕ → Board → Board
moved_by_seat moves b = record b { snakes = map_seats (λ seat s. stepped b (slice_index_or moves seat 4) s) b.snakes }

-- all seats are moved and fed; where none ate, no head is on food
pub record AreMoved (moves : List ℕ) (b : Board) (head' : Head) (bodies bodies' plane' : List ℕ) (any : Bool) : Type 0 where
  pub shows : ShowsSeats head' plane' bodies' (moved_by_seat moves b)
  pub room : (more : ℕ) → HasRoom (more + 16) b → HasRoom more (moved_by_seat moves b)
  pub long : length bodies' ≡ length bodies
  pub none : any ≡ false → (seat : ℕ) → seat < length b.snakes
      → eats b.food (moved (wrap_of b) (given_by (slice_index_or moves seat 4)) (snake_at b.snakes seat)) ≡ false

abbrev pub MovesSeats : List ℕ → Head → List ℕ → List ℕ → Head → List ℕ → List ℕ → Bool → Type 0
MovesSeats moves head bodies plane head' bodies' plane' any =
    (b : Board) → ShowsSeats head plane bodies b → HasRoom 16 b → ((seat : ℕ) → CanMoveAt bodies b seat) → AreMoved moves b head' bodies bodies' plane' any

-- whether the last two parts of the seat's snake differ
abbrev pub IsStretched : Seat → List ℕ → Bool → Type 0
IsStretched seat room result =
    (width height : ℕ) (s : Snake) → width ≤ 25 → HasBody width height s → ShowsSnake seat room s → result ≡ is_stretched s.body

-- a living snake grows, and its health is full
abbrev pub GrowsSeat : Seat → List ℕ → List ℕ → Seat → List ℕ → List ℕ → Type 0
GrowsSeat seat room plane seat' room' plane' =
    (width height : ℕ) (others : Point → ℕ) (food : List Point) (s : Snake) → ShowsSeat width height others food seat room plane s
    → SeatHasRoom 1 others room s → ShowsSeat width height others food seat' room' plane' (grown_snake s)

-- lists of a size that fits the numbers, and a snake whose room is longer than its body if it lives
pub record CanGrowAt (bodies : List ℕ) (b : Board) (seat : ℕ) : Type 0 where
  pub small : length bodies < 65536
  pub short : is_living (snake_at b.snakes seat) ≡ true → length (snake_at b.snakes seat).body < length bodies / 8

-- the seat's snake has grown
pub record IsGrownAt (seat : ℕ) (b : Board) (head' : Head) (bodies bodies' plane' : List ℕ) : Type 0 where
  pub shows : ShowsSeats head' plane' bodies' (with_snake b seat (grown_snake (snake_at b.snakes seat)))
  pub room : (more : ℕ) → HasRoom (more + 1) b → HasRoom more (with_snake b seat (grown_snake (snake_at b.snakes seat)))
  pub long : length bodies' ≡ length bodies

abbrev pub GrowsAt : ℕ → Head → List ℕ → List ℕ → Head → List ℕ → List ℕ → Type 0
GrowsAt seat head bodies plane head' bodies' plane' =
    (b : Board) → ShowsSeats head plane bodies b → HasRoom 1 b → CanGrowAt bodies b seat → seat < length b.snakes
    → IsGrownAt seat b head' bodies bodies' plane'

-- all living snakes have grown
pub record AreGrown (b : Board) (head' : Head) (bodies bodies' plane' : List ℕ) : Type 0 where
  pub shows : ShowsSeats head' plane' bodies' (grown b)
  pub long : length bodies' ≡ length bodies

abbrev pub GrowsSeats : Head → List ℕ → List ℕ → Head → List ℕ → List ℕ → Type 0
GrowsSeats head bodies plane head' bodies' plane' =
    (b : Board) → ShowsSeats head plane bodies b → HasRoom 8 b → ((seat : ℕ) → CanGrowAt bodies b seat) → AreGrown b head' bodies bodies' plane'
