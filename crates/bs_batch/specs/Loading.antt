-- Which boards a game takes, and what it shows then.
use Rattle.std.specs.Prelude.{◌+◌, ◌*◌, ◌≡◌, ◌↔◌, ℕ, ◌≤◌, ◌/◌, true, if◌then◌else◌, is_none, is_some, List, length, All, replicate, Result, IsErr, IsOk, IfErr, OnErr, OnOk}
use Rattle.bs_board.specs.declared.boards.board.Board.{Board}
use Rattle.bs_board.specs.declared.boards.point.Point.{Point}
use Rattle.bs_board.specs.declared.boards.snake.Snake.{Snake}
use Rattle.bs_board.specs.boards.Legal.{IsLegal}
use Rattle.bs_batch.specs.declared.layout.Head.{Head}
use Rattle.bs_batch.specs.declared.layout.Seat.{Seat}
use Rattle.bs_batch.specs.declared.layout.Settings.{Settings}
use Rattle.bs_batch.specs.declared.loading.Misfit.{Misfit}
use Rattle.bs_batch.specs.declared.loading.Misfit.TheVariants.{Hazards, Room}
use Rattle.bs_batch.specs.declared.loading.TheConstants.{MOST_PARTS}
use Rattle.bs_batch.specs.Lasting.{CrossesLittle, IsLasting}
use Rattle.bs_batch.specs.Shown.{ShowsGame, occupants}

-- each cell has at most that many parts of living snakes
abbrev pub HasFewParts : List Snake → Type 0
HasFewParts snakes = (p : Point) → occupants snakes p ≤ MOST_PARTS

-- each body is as long as a room at most
abbrev pub AreShort : ℕ → List Snake → Type 0
AreShort room snakes = All (λ s. length s.body ≤ room) snakes

-- the lists of a game hold the cells of a board, and no cell has too many parts
pub record FitsLists (food bodies : ℕ) (b : Board) : Type 0 where
  pub cells : length b.food ≤ food
  pub short : AreShort (bodies / 8) b.snakes
  pub few : HasFewParts b.snakes

-- besides, no living body crosses itself more than once, so that each later turn is exact
pub record FitsGame (food bodies : ℕ) (b : Board) : Type 0 where
  pub lists : FitsLists food bodies b
  pub crossings : All (CrossesLittle b.width b.height) b.snakes

-- no side is longer
pub record FitsSides (longest : ℕ) (b : Board) : Type 0 where
  pub wide : b.width ≤ longest
  pub high : b.height ≤ longest

-- a seat without a snake
abbrev pub no_snake : Seat
no_snake = record { parts = 0; out = 0; health = 0; cause = 255; killer = 255; spare = 0 }

-- a game of these settings that is over, without a snake
abbrev pub cleared : Settings → Head
cleared s = record { settings = s; turn = 0; foods = 0; living = 0; over = 1; seats = replicate 8 no_snake }

-- why a board is not loaded
abbrev pub misfit_of : Board → Misfit
misfit_of b = if is_some b.hazards then Hazards else Room

-- Whether a board is loaded, what the memory shows then, and why it is not. A game of a board that
-- is not loaded is over, without a snake.
pub record IsLoaded {T : Type 0} (fits : Type 0) (b : Board) (result : Result T Misfit) (head : Head) (food plane bodies : List ℕ) : Type 0 where
  pub exactly : IsOk result ↔ ((is_none b.hazards ≡ true) × fits)
  pub shows : OnOk result (ShowsGame head food plane bodies b)
  pub lasts : OnOk result (IsLasting b)
  pub misfit : IfErr result (λ misfit. misfit ≡ misfit_of b)
  pub none : OnErr result (head ≡ cleared head.settings)

-- the board is not loaded
pub record RefusesBoard {T : Type 0} (b : Board) (result : Result T Misfit) (head : Head) : Type 0 where
  pub error : IsErr result
  pub misfit : IfErr result (λ misfit. misfit ≡ misfit_of b)
  pub none : head ≡ cleared head.settings

-- a legal board, and lists of a size that fits the numbers
pub record CanLoadLists (b : Board) (cells bytes parts : ℕ) : Type 0 where
  pub legal : IsLegal b
  pub food : cells ≤ 1024
  pub plane : (b.height + 2) * 32 ≤ bytes
  pub bodies : parts ≤ 8192
