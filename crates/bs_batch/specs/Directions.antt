-- Directions as bytes.
use Rattle.std.specs.Prelude.{ℕ, ◌==◌, nat_le, if◌then◌else◌, Option, Some, None}
use Rattle.bs_board.specs.declared.boards.point.Direction.{Direction}
use Rattle.bs_board.specs.declared.boards.point.Direction.TheVariants.{Up, Down, Left, Right}

abbrev pub direction_of : ℕ → Direction
direction_of byte = if byte == 0 then Up else if byte == 1 then Down else if byte == 2 then Left else Right

-- none for a byte above 3: straight on
abbrev pub given_by : ℕ → Option Direction
given_by byte = if nat_le byte 3 then Some (direction_of byte) else None
