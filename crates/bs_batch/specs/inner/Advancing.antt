-- The planes of one game, if it has changed.
use Rattle.std.specs.Prelude.{◌≡◌, ◌≢◌, ℕ, ◌+◌, ◌*◌, ◌≤◌, ◌<◌, List, length}
use Rattle.bs_board.specs.declared.boards.board.Board.{Board}
use Rattle.bs_batch.specs.Showing.{ShowsPlanes}
use Rattle.bs_batch.specs.Starting.{piece_of}

-- the planes of a game are in its piece, unless it stays, and no other piece is written
pub record PieceAdvanced (act : ℕ) (shows : Board → Type 0) (number each : ℕ) (old new : List ℕ) : Type 0 where
  pub long : length new ≡ length old
  pub own : act ≤ 1 → (b : Board) → shows b → number * each + each ≤ length new → ShowsPlanes b (piece_of new number each)
  pub kept : 1 < act → piece_of new number each ≡ piece_of old number each
  pub others : (k : ℕ) → k ≢ number → piece_of new k each ≡ piece_of old k each
