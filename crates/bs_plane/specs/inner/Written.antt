-- The head and the hazards of a new record.
use Rattle.std.specs.Prelude.{◌≡◌, ℕ, ◌+◌, List, Option, is_some, flat_map, ◌∷◌, ◌++◌}
use Rattle.bs_board.specs.declared.boards.hazards.Hazards.{Hazards}
use Rattle.bs_board.specs.declared.records.layout.BoardBytes.{BoardBytes}
use Rattle.bs_board.specs.records.Layout.{cells_of, damage_of}
use Rattle.bs_board.specs.records.Record.{cell_bytes, mode_byte, two_bytes, version_byte}

-- the bytes before the food, one turn later
abbrev pub next_head : BoardBytes → ℕ → List ℕ
next_head parts foods =
    (version_byte parts.hazardous parts.mode ∷ mode_byte parts.mode ∷ parts.width ∷ parts.height ∷ two_bytes (parts.turn + 1))
    ++ (parts.min_food ∷ parts.chance ∷ parts.seats ∷ two_bytes foods)

-- a view of these hazards
pub record SeesHazards (h : Option Hazards) (parts : BoardBytes) : Type 0 where
  pub hazardous : parts.hazardous ≡ is_some h
  pub damage : parts.damage ≡ damage_of h
  pub cells : parts.hazards.now ≡ flat_map (cell_bytes 0) (cells_of h)
