-- How the directions of a move are packed into bytes.
use Rattle.std.specs.Prelude.{◌≡◌, ◌==◌, if◌then◌else◌, ℕ, suc, List, [], ◌∷◌, ◌++◌, length, take, drop, flat_map}
use Rattle.bs_board.specs.declared.boards.point.Direction.{Direction}
use Rattle.bs_board.specs.declared.boards.point.Direction.TheVariants.{Up, Down, Left, Right}
use Rattle.bs_board.specs.Texts.{IdsAreTexts}
use Rattle.bs_board.specs.inner.Decoder.{from_two_bytes}
use Rattle.bs_board.specs.records.Record.{two_bytes}

abbrev pub direction_byte : Direction → ℕ
direction_byte Up = 0
direction_byte Down = 1
direction_byte Left = 2
direction_byte Right = 3

abbrev pub direction_of : ℕ → Direction
direction_of byte = if byte == 0 then Up else (if byte == 1 then Down else (if byte == 2 then Left else Right))

abbrev pub packed_move : List ℕ × Direction → List ℕ
packed_move move = direction_byte move.1 ∷ (two_bytes (length move.0) ++ move.0)

abbrev pub packed : List (List ℕ × Direction) → List ℕ
packed = flat_map packed_move

-- at most `count` entries
abbrev pub unpack : ℕ → List ℕ → List (List ℕ × Direction)
unpack (suc count) (direction ∷ high ∷ low ∷ rest) =
    (take (from_two_bytes high low) rest, direction_of direction) ∷ unpack count (drop (from_two_bytes high low) rest)
unpack _ _ = []

unfoldable pub unpacked : List ℕ → List (List ℕ × Direction)
unpacked bytes = unpack (length bytes) bytes

-- the invariant of the type `Moves`
pub record ArePacked (moves : List (List ℕ × Direction)) (bytes : List ℕ) : Type 0 where
  pub whole : bytes ≡ packed moves
  pub texts : IdsAreTexts moves
