-- What a player sees, as planes of bytes.
use Rattle.std.specs.Prelude.{◌≡◌, ℕ, ◌+◌, ◌*◌, ◌≤◌, ◌<◌, min, true, cond, if◌then◌else◌, List, [], ◌∷◌, length, slice_index, slice_index_or}
use Rattle.std.specs.List.{list_any}
use Rattle.bs_board.specs.declared.boards.board.Board.{Board}
use Rattle.bs_board.specs.declared.boards.point.Point.{Point}
use Rattle.bs_board.specs.declared.boards.snake.Snake.{Snake}
use Rattle.bs_board.specs.boards.Cell.{cell_index, is_on_board, is_same_cell}
use Rattle.bs_board.specs.boards.Legal.{IsLegal}
use Rattle.bs_board.specs.boards.Over.{is_living}
use Rattle.bs_rules.specs.Collision.{snake_at}
use Rattle.bs_batch.specs.declared.layout.Head.{Head}
use Rattle.bs_batch.specs.declared.layout.LargeGame.{LargeGame}
use Rattle.bs_batch.specs.declared.layout.SmallGame.{SmallGame}
use Rattle.bs_batch.specs.declared.layout.TheConstants.{LARGE_SIDE, SMALL_SIDE}
use Rattle.bs_batch.specs.Loading.{FitsSides}
use Rattle.bs_batch.specs.Shown.{ShowsGame}
use Rattle.bs_batch.specs.Starting.{piece_of}

-- The number of turns until the foremost part on the cell is gone, if nothing is eaten; 0 where no
-- part is.
abbrev pub turns_left : List Point → Point → ℕ
turns_left [] p = 0
turns_left (x ∷ xs) p = if is_same_cell p x then length xs + 1 else turns_left xs p

abbrev pub food_mark : List Point → Point → ℕ
food_mark food p = cond (list_any (is_same_cell p) food) 1 0

abbrev pub body_mark : Snake → Point → ℕ
body_mark s p = cond (is_living s) (min (turns_left s.body p) 255) 0

-- the plane of that number has this byte for each cell of the board, row by row from the bottom
abbrev pub HasPlane : ℕ → ℕ → ℕ → (Point → ℕ) → List ℕ → Type 0
HasPlane width height number byte into =
    (p : Point) → is_on_board width height p ≡ true → slice_index into (number * (width * height) + cell_index width p) ≡ byte p

-- the planes for which there is room: the food, then the living snakes by their seats
pub record ShowsPlanes (b : Board) (into : List ℕ) : Type 0 where
  pub food : b.width * b.height ≤ length into → HasPlane b.width b.height 0 (food_mark b.food) into
  pub snakes : (seat : ℕ) → seat < length b.snakes → (seat + 1) * (b.width * b.height) + b.width * b.height ≤ length into
      → HasPlane b.width b.height (seat + 1) (body_mark (snake_at b.snakes seat)) into

-- the legal board that a game shows
abbrev pub ShowsBoard : Head → List ℕ → List ℕ → List ℕ → Type 0
ShowsBoard head food bodies into = (b : Board) (plane : List ℕ) → IsLegal b → ShowsGame head food plane bodies b → ShowsPlanes b into

-- The planes of each game are in its piece of the list. A list that is too short has no piece.
abbrev pub ShowsEach : {G : Type 0} → (G → Board → Type 0) → List G → ℕ → List ℕ → Type 0
ShowsEach {G} Shows games each into =
    (k : ℕ) (d : G) (b : Board) → k < length games → Shows (slice_index_or games k d) b → k * each + each ≤ length into → ShowsPlanes b (piece_of into k each)

-- a small game shows this legal board
pub record IsSmallBoard (game : SmallGame) (b : Board) : Type 0 where
  pub sides : FitsSides SMALL_SIDE b
  pub legal : IsLegal b
  pub shows : ShowsGame game.head game.food game.plane game.bodies b

-- a large game shows this legal board
pub record IsLargeBoard (game : LargeGame) (b : Board) : Type 0 where
  pub sides : FitsSides LARGE_SIDE b
  pub legal : IsLegal b
  pub shows : ShowsGame game.head game.food game.plane game.bodies b
