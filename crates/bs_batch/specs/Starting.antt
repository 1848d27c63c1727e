-- The first board of a game.
use Rattle.std.specs.Prelude.{◌≡◌, ◌↔◌, ℕ, ◌+◌, ◌*◌, ◌≤◌, ◌<◌, ◌==◌, nat_le, Bool, true, false, not, if◌then◌else◌, List, [], length, map, take, drop, count_by, slice_index_or, pos, IsTrue, IsFalse}
use Rattle.bs_board.specs.declared.boards.point.Point.{Point}
use Rattle.bs_board.specs.commands.Setup.{Setup, is_fit_food}
use Rattle.bs_board.specs.records.Record.{mode_byte}
use Rattle.bs_modes.specs.FirstBoard.{first_board}
use Rattle.bs_batch.specs.declared.layout.Cell.{Cell}
use Rattle.bs_batch.specs.declared.layout.Head.{Head}
use Rattle.bs_batch.specs.declared.layout.LargeGame.{LargeGame}
use Rattle.bs_batch.specs.declared.layout.Settings.{Settings}
use Rattle.bs_batch.specs.declared.layout.SmallGame.{SmallGame}
use Rattle.bs_batch.specs.declared.layout.TheConstants.{LARGE_SIDE, SMALL_SIDE}
use Rattle.bs_batch.specs.declared.many.ManyStarts.{ManyStarts}
use Rattle.bs_batch.specs.Loading.{cleared}
use Rattle.bs_batch.specs.Shown.{ShowsGame}

abbrev pub point_of : Cell → Point
point_of c = record { x = pos c.x; y = pos c.y }

abbrev pub points_of : List Cell → List Point
points_of = map point_of

-- The settings and the first cells are those of a setup, whose hazards no game has. Nor has it ids.
pub record IsSetupOf (settings : Settings) (starts cells : List Cell) (s : Setup) : Type 0 where
  pub mode : settings.mode ≡ mode_byte s.mode
  pub width : settings.width ≡ s.width
  pub height : settings.height ≡ s.height
  pub min_food : settings.min_food ≡ s.min_food
  pub chance : settings.chance ≡ s.chance
  pub snakes : map (λ start. start.1) s.snakes ≡ points_of starts
  pub food : s.food ≡ points_of cells

-- a starting cell for each seat; they are distinct cells of the board, and so are those of the food
pub record AreFirstCells (s : Settings) (starts cells : List Cell) : Type 0 where
  pub seats : length starts ≡ s.seats
  pub snakes : is_fit_food s.width s.height (points_of starts) ≡ true
  pub food : is_fit_food s.width s.height (points_of cells) ≡ true

-- the settings of a board with sides of 3 to that many cells
pub record AreSettings (longest : ℕ) (s : Settings) : Type 0 where
  pub mode : s.mode ≤ 3
  pub wide : 3 ≤ s.width
  pub narrow : s.width ≤ longest
  pub high : 3 ≤ s.height
  pub low : s.height ≤ longest
  pub some : 1 ≤ s.seats
  pub few : s.seats ≤ 8
  pub chance : s.chance ≤ 100

-- Whether a game is started, and what its memory shows then. A game that is not started is over,
-- without a snake.
pub record IsStarted (fits : Type 0) (settings : Settings) (starts cells : List Cell) (result : Bool) (head : Head) (food plane bodies : List ℕ) : Type 0 where
  pub exactly : IsTrue result ↔ fits
  pub shows : IsTrue result → (s : Setup) → IsSetupOf settings starts cells s → ShowsGame head food plane bodies (first_board s)
  pub none : IsFalse result → head ≡ cleared settings

-- The piece of that number, of pieces of `each` entries; empty if the list is too short.
abbrev pub piece_of : {T : Type 0} → List T → ℕ → ℕ → List T
piece_of list number each = if nat_le (number * each + each) (length list) then take each (drop (number * each) list) else []

-- the byte of the game is not 0
abbrev pub has_to_start : ManyStarts → ℕ → Bool
has_to_start first number = not (slice_index_or first.which.now number 0 == 0)

abbrev pub starts_of : ManyStarts → ℕ → List Cell
starts_of first number = piece_of first.starts.now number first.settings.seats

abbrev pub food_of : ManyStarts → ℕ → List Cell
food_of first number = piece_of first.food.now number first.food_each

-- A game is started from the settings and its own pieces of the lists, if its byte is not 0, else it
-- stays.
pub record StartsOne (longest : ℕ) (first : ManyStarts) (number : ℕ) (stays : Type 0) (result : Bool) (head : Head) (food plane bodies : List ℕ) : Type 0 where
  pub left : has_to_start first number ≡ false → stays × IsFalse result
  pub begins : has_to_start first number ≡ true
      → IsStarted (AreSettings longest first.settings × AreFirstCells first.settings (starts_of first number) (food_of first number)) first.settings (starts_of first number)
      (food_of first number) result head food plane bodies

abbrev pub StartsSmall : ManyStarts → ℕ → SmallGame → SmallGame → Bool → Type 0
StartsSmall first number old new result = StartsOne SMALL_SIDE first number (new ≡ old) result new.head new.food new.plane new.bodies

abbrev pub StartsLarge : ManyStarts → ℕ → LargeGame → LargeGame → Bool → Type 0
StartsLarge first number old new result = StartsOne LARGE_SIDE first number (new ≡ old) result new.head new.food new.plane new.bodies

-- Each game by itself; the list says which of them were started, and the result how many.
pub record StartsEach {G : Type 0} (Starts : ℕ → G → G → Bool → Type 0) (games games' : List G) (result : ℕ) : Type 0 where
  pub started : List Bool
  pub long : length started ≡ length games
  pub same : length games' ≡ length games
  pub each : (k : ℕ) (d : G) → k < length games → Starts k (slice_index_or games k d) (slice_index_or games' k d) (slice_index_or started k false)
  pub count : result ≡ count_by (λ b. b) started

-- lists of a size that holds the cells of the board and fits the numbers
pub record CanStart (s : Settings) (cells bytes parts : ℕ) : Type 0 where
  pub few : s.seats ≤ 8
  pub narrow : s.width ≤ 25
  pub area : s.width * s.height ≤ cells
  pub small : cells ≤ 1024
  pub plane : (s.height + 2) * 32 ≤ bytes
  pub bodies : 24 ≤ parts

-- a cleared game of these settings is started
abbrev pub StartsGame : List Cell → List Cell → Head → Head → List ℕ → List ℕ → List ℕ → Bool → Type 0
StartsGame starts cells old head food plane bodies result =
    (settings : Settings) → old ≡ cleared settings → CanStart settings (length food) (length plane) (length bodies)
    → IsStarted (AreFirstCells settings starts cells) settings starts cells result head food plane bodies
