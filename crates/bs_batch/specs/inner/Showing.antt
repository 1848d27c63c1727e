-- The steps by which planes are written.
use Rattle.std.specs.Prelude.{◌≡◌, ◌≢◌, ℕ, ◌+◌, ◌*◌, ◌≤◌, ◌<◌, min, true, cond, List, length, slice_index}
use Rattle.bs_board.specs.declared.boards.board.Board.{Board}
use Rattle.bs_board.specs.declared.boards.point.Point.{Point}
use Rattle.bs_board.specs.boards.Cell.{cell_index, is_on_board, is_same_cell}
use Rattle.bs_board.specs.boards.Legal.{IsLegal, is_near}
use Rattle.bs_rules.specs.Collision.{snake_at}
use Rattle.bs_batch.specs.Shown.{ShowsGame}
use Rattle.bs_batch.specs.declared.layout.Head.{Head}
use Rattle.bs_batch.specs.declared.layout.Settings.{Settings}
use Rattle.bs_batch.specs.Numbers.{number_of, numbers_of}
use Rattle.bs_batch.specs.Showing.{HasPlane, ShowsPlanes, body_mark, food_mark, turns_left}
use Rattle.bs_batch.specs.Starting.{piece_of}
use Rattle.bs_batch.specs.inner.Loading.{AreNear}

-- one plane by itself: a byte for each cell of the board
pub record HasCells (width height : ℕ) (byte : Point → ℕ) (plane : List ℕ) : Type 0 where
  pub area : length plane ≡ width * height
  pub cells : (p : Point) → is_on_board width height p ≡ true → slice_index plane (cell_index width p) ≡ byte p

-- the cell has this byte, and no other changes; nothing changes for a cell that is not on the board
abbrev pub MarksCell : Settings → ℕ → ℕ → List ℕ → List ℕ → Type 0
MarksCell s cell value old new =
    (height : ℕ) (byte : Point → ℕ) (p : Point) → s.width ≤ 25 → height ≤ 25 → is_near s.width height p ≡ true → cell ≡ number_of p
    → HasCells s.width height byte old → HasCells s.width height (λ q. cond (is_same_cell q p) value (byte q)) new

abbrev pub MarksFood : Settings → List ℕ → List ℕ → List ℕ → Type 0
MarksFood s numbers old new =
    (height : ℕ) (cells : List Point) → AreNear s.width height cells → numbers ≡ numbers_of cells → HasCells s.width height (λ _. 0) old
    → HasCells s.width height (food_mark cells) new

abbrev pub MarksBody : Settings → List ℕ → List ℕ → List ℕ → Type 0
MarksBody s numbers old new =
    (height : ℕ) (cells : List Point) → AreNear s.width height cells → numbers ≡ numbers_of cells → HasCells s.width height (λ _. 0) old
    → HasCells s.width height (λ p. min (turns_left cells p) 255) new

-- the plane of that number, which was empty, is written if there is room, and no other
pub record WritesPlane (width height number : ℕ) (byte : Point → ℕ) (old new : List ℕ) : Type 0 where
  pub long : length new ≡ length old
  pub own : number * (width * height) + width * height ≤ length old → HasPlane width height number (λ _. 0) old → HasPlane width height number byte new
  pub others : (k : ℕ) (other : Point → ℕ) → k ≢ number → HasPlane width height k other old → HasPlane width height k other new

abbrev pub ShowsFoodPlane : Head → List ℕ → ℕ → List ℕ → List ℕ → Type 0
ShowsFoodPlane head food area old new =
    (b : Board) (plane bodies : List ℕ) → IsLegal b → ShowsGame head food plane bodies b → area ≡ b.width * b.height
    → WritesPlane b.width b.height 0 (food_mark b.food) old new

abbrev pub ShowsSeatPlane : Head → List ℕ → ℕ → ℕ → List ℕ → List ℕ → Type 0
ShowsSeatPlane head bodies seat area old new =
    (b : Board) (food plane : List ℕ) → IsLegal b → ShowsGame head food plane bodies b → area ≡ b.width * b.height → seat < length b.snakes
    → WritesPlane b.width b.height (seat + 1) (body_mark (snake_at b.snakes seat)) old new

-- the planes of a game are in its piece, and no other piece is written
pub record PieceShown (shows : Board → Type 0) (number each : ℕ) (old new : List ℕ) : Type 0 where
  pub long : length new ≡ length old
  pub own : (b : Board) → shows b → number * each + each ≤ length new → ShowsPlanes b (piece_of new number each)
  pub others : (k : ℕ) → k ≢ number → piece_of new k each ≡ piece_of old k each
