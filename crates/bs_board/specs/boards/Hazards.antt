-- The hazards of a board.
use Rattle.std.specs.Prelude.{ℕ, Bool, true, ◌&&◌, length, nat_le, Option, Some, None}
use Rattle.std.specs.List.{list_all}
use Rattle.bs_board.specs.declared.boards.hazards.Hazards.{Hazards}
use Rattle.bs_board.specs.declared.limits.TheConstants.{MOST_DAMAGE, MOST_HAZARDS}
use Rattle.bs_board.specs.boards.Cell.{is_on_board}

-- none, or cells of the board, and not too many
abbrev pub are_fit_hazards : ℕ → ℕ → Option Hazards → Bool
are_fit_hazards width height None = true
are_fit_hazards width height (Some h) =
    nat_le h.damage MOST_DAMAGE && nat_le (length h.cells) MOST_HAZARDS && list_all (is_on_board width height) h.cells
