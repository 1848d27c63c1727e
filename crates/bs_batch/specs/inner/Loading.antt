-- The steps by which a board is loaded.
use Rattle.std.specs.Prelude.{◌≡◌, ◌≢◌, ◌↔◌, ℕ, ◌+◌, ◌≤◌, ◌<◌, ◌/◌, Bool, true, IsTrue, List, length, take, All, count_by, Option, Some, MatchOption}
use Rattle.bs_board.specs.declared.boards.board.Board.{Board}
use Rattle.bs_board.specs.declared.boards.point.Point.{Point}
use Rattle.bs_board.specs.declared.boards.snake.Cause.TheVariants.{Hazard}
use Rattle.bs_board.specs.declared.boards.snake.Snake.{Snake}
use Rattle.bs_board.specs.boards.Cell.{is_same_cell}
use Rattle.bs_board.specs.boards.Legal.{is_near}
use Rattle.bs_batch.specs.declared.layout.Head.{Head}
use Rattle.bs_batch.specs.declared.layout.Seat.{Seat}
use Rattle.bs_batch.specs.declared.loading.TheConstants.{MOST_PARTS}
use Rattle.bs_batch.specs.Counts.{HasBytes}
use Rattle.bs_batch.specs.Loading.{AreShort, FitsLists, HasFewParts}
use Rattle.bs_batch.specs.Numbers.{number_of, numbers_of}
use Rattle.bs_batch.specs.Shown.{ShowsFood, ShowsSnake, ShowsSnakes, byte_of, food_byte, occupants, parts_on, room_of, seat_at}

-- cells on a board with these sides or next to it
pub record AreNear (width height : ℕ) (cells : List Point) : Type 0 where
  pub narrow : width ≤ 25
  pub low : height ≤ 25
  pub near : All (λ p. is_near width height p ≡ true) cells

abbrev pub NumbersCell : Point → ℕ → Type 0
NumbersCell cell result = (width height : ℕ) → width ≤ 25 → height ≤ 25 → is_near width height cell ≡ true → result ≡ number_of cell

-- the list begins with the numbers of the cells
abbrev pub BeginsWith : List Point → List ℕ → Type 0
BeginsWith cells room = (width height : ℕ) → AreNear width height cells → take (length cells) room ≡ numbers_of cells

-- none, or one of eight seats
abbrev pub IsSeatOfEight : Option ℕ → Type 0
IsSeatOfEight killer = MatchOption killer (Unit {0}) (λ seat. seat < 8)

-- the snake of a legal board without hazards
pub record CanLoad (width height : ℕ) (s : Snake) : Type 0 where
  pub body : AreNear width height s.body
  pub killer : IsSeatOfEight s.killer
  pub cause : s.cause ≢ Some Hazard

-- the parts of a body are counted beside others, if no cell gets too many
pub record PartsAdded (width height : ℕ) (others : Point → ℕ) (food parts : List Point) (new : List ℕ) (result : Bool) : Type 0 where
  pub few : IsTrue result ↔ ((p : Point) → others p + count_by (is_same_cell p) parts ≤ MOST_PARTS)
  pub bytes : IsTrue result → HasBytes width height (λ p. others p + count_by (is_same_cell p) parts + food_byte food p) new

abbrev pub AddsParts : List ℕ → List ℕ → List ℕ → Bool → Type 0
AddsParts body old new result =
    (width height : ℕ) (others : Point → ℕ) (food parts : List Point) → AreNear width height parts → body ≡ numbers_of parts
    → ((p : Point) → others p ≤ MOST_PARTS) → HasBytes width height (λ p. others p + food_byte food p) old
    → PartsAdded width height others food parts new result

-- a snake is in its room, and its parts are counted beside others; its body is too long, or a cell gets too many
pub record SnakeLoaded (width height : ℕ) (others : Point → ℕ) (food : List Point) (s : Snake) (seat : Seat) (plane room : List ℕ) (result : Bool) : Type 0 where
  pub fits : IsTrue result ↔ ((length s.body ≤ length room) × ((p : Point) → others p + parts_on p s ≤ MOST_PARTS))
  pub shows : IsTrue result → ShowsSnake seat room s
  pub bytes : IsTrue result → HasBytes width height (λ p. others p + parts_on p s + food_byte food p) plane

abbrev pub LoadsSnake : Snake → List ℕ → Seat → List ℕ → List ℕ → Bool → Type 0
LoadsSnake s old seat plane room result =
    (width height : ℕ) (others : Point → ℕ) (food : List Point) → CanLoad width height s → length room ≤ 1024
    → ((p : Point) → others p ≤ MOST_PARTS) → HasBytes width height (λ p. others p + food_byte food p) old
    → SnakeLoaded width height others food s seat plane room result

-- the snake of a seat is loaded; the other seats and rooms stay
pub record SeatLoaded (width height : ℕ) (others : Point → ℕ) (food : List Point) (seat : ℕ) (s : Snake) (head : Head) (bodies plane : List ℕ) (result : Bool) : Type 0 where
  pub fits : IsTrue result ↔ ((length s.body ≤ length bodies / 8) × ((p : Point) → others p + parts_on p s ≤ MOST_PARTS))
  pub shows : IsTrue result → ShowsSnake (seat_at head.seats seat) (room_of bodies seat) s
  pub bytes : IsTrue result → HasBytes width height (λ p. others p + parts_on p s + food_byte food p) plane

-- one seat and its room are written, and nothing else but the plane
pub record WritesSeat (seat : ℕ) (old : Head) (old_bodies : List ℕ) (new : Head) (new_bodies : List ℕ) : Type 0 where
  pub seats : (k : ℕ) → k ≢ seat → seat_at new.seats k ≡ seat_at old.seats k
  pub rooms : (k : ℕ) → k ≢ seat → room_of new_bodies k ≡ room_of old_bodies k
  pub rest : new ≡ record old { seats = new.seats }
  pub eight : length new.seats ≡ length old.seats
  pub long : length new_bodies ≡ length old_bodies

abbrev pub LoadsSeat : ℕ → Snake → Head → List ℕ → List ℕ → Head → List ℕ → List ℕ → Bool → Type 0
LoadsSeat seat s head bodies plane head' bodies' plane' result =
    (width height : ℕ) (others : Point → ℕ) (food : List Point) → CanLoad width height s → length bodies ≤ 8192 → seat < length head.seats
    → ((p : Point) → others p ≤ MOST_PARTS) → HasBytes width height (λ p. others p + food_byte food p) plane
    → WritesSeat seat head bodies head' bodies' × SeatLoaded width height others food seat s head' bodies' plane' result

-- the snakes are in their seats and rooms, and their parts are counted; no other field of the head is written
pub record SnakesLoaded (width height : ℕ) (food : List Point) (snakes : List Snake) (old head : Head) (bodies plane : List ℕ) (result : Bool) : Type 0 where
  pub fits : IsTrue result ↔ (AreShort (length bodies / 8) snakes × HasFewParts snakes)
  pub shows : IsTrue result → ShowsSnakes head.seats bodies snakes
  pub bytes : IsTrue result → HasBytes width height (λ p. occupants snakes p + food_byte food p) plane
  pub rest : head ≡ record old { seats = head.seats }
  pub eight : length head.seats ≡ 8

abbrev pub LoadsSnakes : List Snake → Head → List ℕ → List ℕ → Head → List ℕ → List ℕ → Bool → Type 0
LoadsSnakes snakes head bodies plane head' bodies' plane' result =
    (width height : ℕ) (food : List Point) → All (CanLoad width height) snakes → length snakes ≤ 8 → length bodies ≤ 8192 → length head.seats ≡ 8
    → HasBytes width height (food_byte food) plane → SnakesLoaded width height food snakes head head' bodies' plane' result

-- the food is in the list and on the plane; no other field of the head is written
pub record FoodLoaded (width height : ℕ) (cells : List Point) (old head : Head) (list plane : List ℕ) (result : Bool) : Type 0 where
  pub fits : IsTrue result ↔ (length cells ≤ length list)
  pub shows : IsTrue result → ShowsFood head.foods list cells
  pub bytes : IsTrue result → HasBytes width height (food_byte cells) plane
  pub rest : head ≡ record old { foods = head.foods }

abbrev pub LoadsFood : List Point → Head → List ℕ → Head → List ℕ → List ℕ → Bool → Type 0
LoadsFood cells head plane head' list' plane' result =
    (width height : ℕ) → AreNear width height cells → length list' ≤ 1024 → HasBytes width height (λ _. 0) plane
    → FoodLoaded width height cells head head' list' plane' result

-- food and snakes as on a legal board without hazards
pub record CanLoadBoard (b : Board) : Type 0 where
  pub food : AreNear b.width b.height b.food
  pub snakes : All (CanLoad b.width b.height) b.snakes
  pub few : length b.snakes ≤ 8

-- the food and the snakes are in the lists and on the plane; no other field of the head is written
pub record CellsLoaded (b : Board) (old head : Head) (list plane bodies : List ℕ) (result : Bool) : Type 0 where
  pub fits : IsTrue result ↔ FitsLists (length list) (length bodies) b
  pub food : IsTrue result → ShowsFood head.foods list b.food
  pub snakes : IsTrue result → ShowsSnakes head.seats bodies b.snakes
  pub bytes : IsTrue result → HasBytes b.width b.height (byte_of b.food b.snakes) plane
  pub rest : head ≡ record old { foods = head.foods; seats = head.seats }
  pub eight : length head.seats ≡ 8

abbrev pub LoadsCells : Board → Head → List ℕ → Head → List ℕ → List ℕ → List ℕ → Bool → Type 0
LoadsCells b head plane head' list' plane' bodies' result =
    CanLoadBoard b → length list' ≤ 1024 → length bodies' ≤ 8192 → length head.seats ≡ 8 → HasBytes b.width b.height (λ _. 0) plane
    → CellsLoaded b head head' list' plane' bodies' result
