-- The steps by which a game is started.
use Rattle.std.specs.Prelude.{◌≡◌, ◌↔◌, ℕ, ◌+◌, ◌*◌, ◌≤◌, ◌<◌, Bool, true, IsTrue, List, [], length, map}
use Rattle.bs_board.specs.declared.boards.board.Mode.{Mode}
use Rattle.bs_board.specs.declared.boards.point.Point.{Point}
use Rattle.bs_board.specs.declared.boards.snake.Snake.{Snake}
use Rattle.bs_board.specs.boards.Cell.{is_on_board}
use Rattle.bs_board.specs.commands.Setup.{is_fit_food}
use Rattle.bs_board.specs.records.Record.{mode_byte}
use Rattle.bs_modes.specs.FirstBoard.{first_food, first_snake}
use Rattle.bs_batch.specs.declared.layout.Cell.{Cell}
use Rattle.bs_batch.specs.declared.layout.Head.{Head}
use Rattle.bs_batch.specs.Counts.{HasBytes}
use Rattle.bs_batch.specs.Shown.{ShowsFood, ShowsSnake, ShowsSnakes, food_byte, occupants, parts_on, room_of, seat_at}
use Rattle.bs_batch.specs.Starting.{AreFirstCells, CanStart, point_of, points_of}
use Rattle.bs_batch.specs.inner.Loading.{WritesSeat}

-- a new snake on that cell; games have no ids
abbrev pub starter : Point → Snake
starter p = first_snake ([], p)

abbrev pub starters : List Point → List Snake
starters = map starter

-- a new snake is in its seat and its room, and its parts are counted beside others; its cell is not on the board, or is taken
pub record SnakePlaced (width height : ℕ) (others : Point → ℕ) (seat : ℕ) (p : Point) (head : Head) (bodies plane : List ℕ) (result : Bool) : Type 0 where
  pub fits : IsTrue result ↔ ((is_on_board width height p ≡ true) × (others p ≡ 0))
  pub shows : IsTrue result → ShowsSnake (seat_at head.seats seat) (room_of bodies seat) (starter p)
  pub bytes : IsTrue result → HasBytes width height (λ q. others q + parts_on q (starter p)) plane

abbrev pub PlacesSnake : ℕ → Cell → Head → List ℕ → List ℕ → Head → List ℕ → List ℕ → Bool → Type 0
PlacesSnake seat cell head bodies plane head' bodies' plane' result =
    (others : Point → ℕ) → 24 ≤ length bodies → seat < length head.seats → HasBytes head.settings.width head.settings.height others plane
    → WritesSeat seat head bodies head' bodies'
    × SnakePlaced head.settings.width head.settings.height others seat (point_of cell) head' bodies' plane' result

-- the new snakes are in their seats and rooms, and their parts are counted; no other field of the head is written
pub record SnakesPlaced (old : Head) (starts : List Point) (head : Head) (bodies plane : List ℕ) (result : Bool) : Type 0 where
  pub fits : IsTrue result ↔ ((length starts ≡ old.settings.seats) × (is_fit_food old.settings.width old.settings.height starts ≡ true))
  pub shows : IsTrue result → ShowsSnakes head.seats bodies (starters starts)
  pub bytes : IsTrue result → HasBytes old.settings.width old.settings.height (occupants (starters starts)) plane
  pub rest : head ≡ record old { seats = head.seats }
  pub eight : length head.seats ≡ 8

abbrev pub PlacesSnakes : List Cell → Head → List ℕ → List ℕ → Head → List ℕ → List ℕ → Bool → Type 0
PlacesSnakes starts head bodies plane head' bodies' plane' result =
    24 ≤ length bodies → length head.seats ≡ 8 → HasBytes head.settings.width head.settings.height (λ _. 0) plane
    → SnakesPlaced head (points_of starts) head' bodies' plane' result

-- the food is in the list and on the plane; no other field of the head is written
pub record FoodPlaced (old : Head) (cells : List Point) (others : Point → ℕ) (head : Head) (list plane : List ℕ) (result : Bool) : Type 0 where
  pub fits : IsTrue result ↔ (is_fit_food old.settings.width old.settings.height cells ≡ true)
  pub shows : IsTrue result → ShowsFood head.foods list cells
  pub bytes : IsTrue result → HasBytes old.settings.width old.settings.height (λ p. others p + food_byte cells p) plane
  pub rest : head ≡ record old { foods = head.foods }

abbrev pub PlacesFood : List Cell → Head → List ℕ → Head → List ℕ → List ℕ → Bool → Type 0
PlacesFood cells head plane head' list' plane' result =
    (others : Point → ℕ) → ((p : Point) → others p < 128) → head.foods ≡ 0 → head.settings.width * head.settings.height ≤ length list' → length list' ≤ 1024
    → HasBytes head.settings.width head.settings.height others plane → FoodPlaced head (points_of cells) others head' list' plane' result

-- the cells of the list lose their food
abbrev pub DropsFood : List ℕ → Head → List ℕ → Head → List ℕ → Type 0
DropsFood list head plane head' plane' =
    (width height : ℕ) (others : Point → ℕ) (cells : List Point) → ((p : Point) → others p < 128) → is_fit_food width height cells ≡ true → ShowsFood (length list) list cells
    → HasBytes width height (λ p. others p + food_byte cells p) plane → HasBytes width height others plane' × (head' ≡ record head { foods = 0 })

-- the snakes and the food are in the lists and on the plane; no other field of the head is written
pub record AllPlaced (old : Head) (starts cells : List Cell) (head : Head) (list plane bodies : List ℕ) (result : Bool) : Type 0 where
  pub fits : IsTrue result ↔ AreFirstCells old.settings starts cells
  pub snakes : IsTrue result → ShowsSnakes head.seats bodies (starters (points_of starts))
  pub food : IsTrue result → ShowsFood head.foods list (points_of cells)
  pub bytes : IsTrue result → HasBytes old.settings.width old.settings.height (λ p. occupants (starters (points_of starts)) p + food_byte (points_of cells) p) plane
  pub rest : IsTrue result → head ≡ record old { foods = head.foods; seats = head.seats }
  pub eight : IsTrue result → length head.seats ≡ 8

abbrev pub PlacesAll : List Cell → List Cell → Head → List ℕ → Head → List ℕ → List ℕ → List ℕ → Bool → Type 0
PlacesAll starts cells head plane head' list' plane' bodies' result =
    CanStart head.settings (length list') (length plane') (length bodies') → head.foods ≡ 0 → length head.seats ≡ 8
    → HasBytes head.settings.width head.settings.height (λ _. 0) plane → AllPlaced head starts cells head' list' plane' bodies' result

-- the food of the first board, which depends on the mode
pub record HasFirstFood (m : Mode) (width height : ℕ) (others : Point → ℕ) (cells : List Point) (old head : Head) (list plane : List ℕ) : Type 0 where
  pub food : ShowsFood head.foods list (first_food m cells)
  pub bytes : HasBytes width height (λ p. others p + food_byte (first_food m cells) p) plane
  pub rest : head ≡ record old { foods = head.foods }

abbrev pub KeepsFirstFood : List ℕ → Head → List ℕ → Head → List ℕ → Type 0
KeepsFirstFood list head plane head' plane' =
    (m : Mode) (width height : ℕ) (others : Point → ℕ) (cells : List Point) → head.settings.mode ≡ mode_byte m → ((p : Point) → others p < 128)
    → is_fit_food width height cells ≡ true → ShowsFood head.foods list cells → HasBytes width height (λ p. others p + food_byte cells p) plane
    → HasFirstFood m width height others cells head head' list plane'
