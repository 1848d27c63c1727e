-- The contents of a `move` line.
use Rattle.std.specs.Prelude.{ℕ, codes, length, List, [], ◌∷◌, Option, Some, None, option_map, nat_le, if◌then◌else◌}
use Rattle.std.specs.List.{filter_map}
use Rattle.serde_json.specs.Data.{Data, Members, no_members, member}
use Rattle.serde_json.specs.Find.{get, as_str, as_object}
use Rattle.bs_board.specs.declared.boards.point.Direction.{Direction}
use Rattle.bs_board.specs.declared.boards.point.Direction.TheVariants.{Up, Down, Left, Right}
use Rattle.bs_board.specs.declared.boards.point.Point.{Point}
use Rattle.bs_board.specs.declared.plans.version.Version.{Version}
use Rattle.bs_board.specs.commands.Orders.{Orders, orders_of}
use Rattle.bs_board.specs.plans.Version.{has_hazards}
use Rattle.bs_board.specs.Texts.{is_same_text}
use Rattle.bs_board.specs.declared.limits.TheConstants.{MOST_HAZARDS, MOST_WORDS}
use Rattle.bs_json.specs.declared.limits.TheConstants.{MOST_FOOD, MOST_WORD}
use Rattle.bs_json.specs.Setups.{cell_from}
use Rattle.bs_json.specs.Values.{◌>>=◌, or_default, list_of, whole_to}

abbrev pub direction_named : List ℕ → Option Direction
direction_named word =
    if is_same_text word (codes "up") then Some Up
    else (if is_same_text word (codes "down") then Some Down
    else (if is_same_text word (codes "left") then Some Left
    else (if is_same_text word (codes "right") then Some Right
    else None)))

abbrev pub direction_from : Data → Option Direction
direction_from d = as_str d >>= direction_named

abbrev pub entries_of : Members → List (List ℕ × Data)
entries_of no_members = []
entries_of (member id d rest) = (id, d) ∷ entries_of rest

-- a value that names no direction counts as missing
abbrev pub direction_entry : List ℕ × Data → Option (List ℕ × Direction)
direction_entry entry = option_map (λ direction. (entry.0, direction)) (direction_from entry.1)

abbrev pub directions_of : Members → List (List ℕ × Direction)
directions_of members = filter_map direction_entry (entries_of members)

abbrev pub few_words : List ℕ → Option (List ℕ)
few_words words = if nat_le (length words) MOST_WORDS then Some words else None

-- the words, if they are within the limits
abbrev pub words_from : Data → Option (List ℕ)
words_from d = list_of (whole_to MOST_WORD) d >>= few_words

abbrev pub moves_of : Data → Option Members
moves_of d = get (codes "moves") d >>= as_object

abbrev pub few_cells : ℕ → List Point → Option (Option (List Point))
few_cells most cells = if nat_le (length cells) most then Some (Some cells) else None

-- the cells, if they are within the limits
abbrev pub cells_from : ℕ → Data → Option (Option (List Point))
cells_from most d = list_of cell_from d >>= few_cells most

-- None if the line has no such member
abbrev pub cells_at : List ℕ → ℕ → Data → Option (Option (List Point))
cells_at name most d = or_default (cells_from most) None (get name d)

-- the hazards and the food that the move gives, in versions that have hazards
unfoldable pub map_from : Version → Data → Option (Option (List Point) × Option (List Point))
map_from version d =
    if has_hazards version
    then cells_at (codes "hazards") MOST_HAZARDS d >>= (λ hazards. option_map (λ food. (hazards, food)) (cells_at (codes "food") MOST_FOOD d))
    else Some (None, None)

-- no words if the line has no such member
unfoldable pub orders_from : Version → Data → Option Orders
orders_from version d = do
  words ← or_default words_from [] (get (codes "words") d)
  given ← map_from version d
  members ← moves_of d
  Some (record (orders_of (directions_of members) words) { hazards = given.0; food = given.1 })
