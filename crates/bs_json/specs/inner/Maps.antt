-- The compact text of cells, and of the hazards and the food that a move gives.
use Rattle.std.specs.Prelude.{◌≡◌, ◌≤◌, ℕ, ℤ, pos, negsuc, codes, length, List, [], ◌∷◌, ◌++◌, Bool, true, false, ◌&&◌, Option, Some, None, nat_lt, ⊤}
use Rattle.std.specs.List.{list_all}
use Rattle.serde_json.specs.Written.{comma_if}
use Rattle.bs_board.specs.declared.boards.point.Point.{Point}
use Rattle.bs_board.specs.declared.limits.TheConstants.{LONGEST_SIDE, MOST_HAZARDS}
use Rattle.bs_board.specs.declared.plans.version.Version.{Version}
use Rattle.bs_board.specs.plans.Version.{has_hazards}
use Rattle.bs_json.specs.declared.limits.TheConstants.{MOST_FOOD}
use Rattle.bs_json.specs.inner.BoardText.{coordinate_text}

-- within the longest side
abbrev pub is_near : ℤ → Bool
is_near (pos n) = nat_lt n LONGEST_SIDE
is_near (negsuc n) = false

abbrev pub is_near_cell : Point → Bool
is_near_cell cell = is_near cell.x && is_near cell.y

-- the members of a cell, and the brace that closes it
abbrev pub place_text : Point → List ℕ
place_text cell = codes "\"x\":" ++ (coordinate_text cell.x ++ (codes ",\"y\":" ++ (coordinate_text cell.y ++ codes "}")))

abbrev pub cells_text : Bool → List Point → List ℕ
cells_text later [] = []
cells_text later (cell ∷ cells) = comma_if later ++ ((123 ∷ place_text cell) ++ cells_text true cells)

-- cells that may be left out, behind the text before the list
abbrev pub given_text : List ℕ → Option (List Point) → List ℕ
given_text name None = []
given_text name (Some cells) = name ++ (cells_text false cells ++ codes "]")

-- the text after the moves of a move without words
abbrev pub map_text : Option (List Point) → Option (List Point) → List ℕ
map_text hazards food = given_text (codes ",\"hazards\":[") hazards ++ (given_text (codes ",\"food\":[") food ++ codes "}")

-- at most so many cells, if there are any in that version
abbrev pub MayGive : Version → ℕ → Option (List Point) → Type 0
MayGive version most None = ⊤
MayGive version most (Some cells) = (has_hazards version ≡ true) × (list_all is_near_cell cells ≡ true) × (length cells ≤ most)

abbrev pub IsMap : Version → Option (List Point) → Option (List Point) → Type 0
IsMap version hazards food = MayGive version MOST_HAZARDS hazards × MayGive version MOST_FOOD food
