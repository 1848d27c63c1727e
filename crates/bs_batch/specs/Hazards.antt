-- The hazards of a board beside its game.
use Rattle.std.specs.Prelude.{◌≡◌, ℕ, List, count_by, IfSome, Option, Some, None}
use Rattle.bs_board.specs.declared.boards.board.Board.{Board}
use Rattle.bs_board.specs.declared.boards.hazards.Hazards.{Hazards}
use Rattle.bs_board.specs.declared.boards.point.Point.{Point}
use Rattle.bs_board.specs.boards.Cell.{is_same_cell}
use Rattle.bs_batch.specs.Showing.{HasPlane}

-- the number of times that the cell is among the hazards
abbrev pub hazards_on : Option Hazards → Point → ℕ
hazards_on None p = 0
hazards_on (Some h) p = count_by (is_same_cell p) h.cells

-- a byte for each cell of the board, row by row from the bottom, and the damage
pub record ShowsHazards (counts : List ℕ) (damage : ℕ) (b : Board) : Type 0 where
  pub cells : HasPlane b.width b.height 0 (hazards_on b.hazards) counts
  pub hurts : IfSome b.hazards (λ h. damage ≡ h.damage)
