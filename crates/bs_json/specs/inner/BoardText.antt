-- The pieces of a board's JSON text.
use Rattle.std.specs.Prelude.{ℕ, ℤ, codes, decimal, List, [], ◌∷◌, ◌++◌, Bool, true, false, Option, Some, None, pos, ◌-ℤ◌}
use Rattle.serde_json.specs.Data.{Data, Items, null, boolean, string}
use Rattle.serde_json.specs.Find.{of_integer}
use Rattle.serde_json.specs.Written.{compact_text, items_text, number_text}
use Rattle.bs_board.specs.declared.boards.board.Board.{Board}
use Rattle.bs_board.specs.declared.boards.hazards.Hazards.{Hazards}
use Rattle.bs_board.specs.declared.boards.point.Point.{Point}
use Rattle.bs_board.specs.declared.boards.snake.Snake.{Snake}
use Rattle.bs_board.specs.declared.records.layout.BoardBytes.{BoardBytes}
use Rattle.bs_board.specs.declared.records.layout.SnakeBytes.{SnakeBytes}
use Rattle.bs_json.specs.Boards.{cause_data, cells_data, mode_text, out_data}

-- ---- the board in the bytes of a record

abbrev pub cell_of : ℕ → ℕ → ℕ → Point
cell_of raised x y = record { x = pos x -ℤ pos raised; y = pos y -ℤ pos raised }

-- Two bytes a cell, each coordinate stored with `raised` added.
abbrev pub cells_of : ℕ → List ℕ → List Point
cells_of raised [] = []
cells_of raised (x ∷ []) = []
cells_of raised (x ∷ y ∷ rest) = cell_of raised x y ∷ cells_of raised rest

abbrev pub snake_of : SnakeBytes → Snake
snake_of parts = record { id = parts.id.now; body = cells_of 1 parts.body.now; health = parts.health; cause = parts.cause; killer = parts.killer; out = parts.out }

abbrev pub hazards_of : Bool → ℕ → List ℕ → Option Hazards
hazards_of false damage cells = None
hazards_of true damage cells = Some (record { damage = damage; cells = cells_of 0 cells })

-- The board of these parts, with these snakes.
abbrev pub board_of : BoardBytes → List Snake → Board
board_of parts snakes = record {
  mode = parts.mode;
  width = parts.width;
  height = parts.height;
  turn = parts.turn;
  min_food = parts.min_food;
  chance = parts.chance;
  food = cells_of 0 parts.food.now;
  hazards = hazards_of parts.hazardous parts.damage parts.hazards.now;
  snakes = snakes;
}

-- ---- pieces

abbrev pub coordinate_text : ℤ → List ℕ
coordinate_text z = number_text (of_integer z)

-- The byte before an item of a list: a comma, or the bracket that opens the list.
abbrev pub byte_before : Bool → ℕ
byte_before true = 44
byte_before false = 91

-- The items of a list that are left, with the brackets that are still missing.
abbrev pub list_rest : Bool → Items → List ℕ
list_rest true items = items_text true items
list_rest false items = 91 ∷ items_text false items

abbrev pub text_data : Option (List ℕ) → Data
text_data None = null
text_data (Some text) = string text

-- A snake, with that value for its killer.
abbrev pub snake_pieces : Data → Snake → List ℕ
snake_pieces by s =
    codes "{\"body\":" ++ (compact_text (cells_data s.body) ++ (codes ",\"by\":" ++ (compact_text by ++ (codes ",\"cause\":" ++ (compact_text (cause_data s.cause)
    ++ (codes ",\"health\":" ++ (decimal s.health ++ (codes ",\"id\":" ++ (compact_text (string s.id) ++ (codes ",\"out\":" ++ (compact_text (out_data s.out) ++ codes "}")))))))))))

-- The hazards, after the chance of food.
abbrev pub hazard_pieces : Option Hazards → List ℕ
hazard_pieces None = []
hazard_pieces (Some h) = codes ",\"hazard_damage\":" ++ (decimal h.damage ++ (codes ",\"hazards\":" ++ compact_text (cells_data h.cells)))

-- The members of a board between its hazards and its snakes.
abbrev pub rule_pieces : Bool → Board → List ℕ
rule_pieces over b =
    codes ",\"height\":" ++ (decimal b.height ++ (codes ",\"min_food\":" ++ (decimal b.min_food ++ ((codes ",\"mode\":" ++ compact_text (string (mode_text b.mode)))
    ++ (codes ",\"over\":" ++ (compact_text (boolean over) ++ codes ",\"snakes\":"))))))

-- A board up to its snakes.
abbrev pub front_pieces : Bool → Board → List ℕ
front_pieces over b =
    codes "{\"food\":" ++ (compact_text (cells_data b.food) ++ (codes ",\"food_chance\":" ++ (decimal b.chance ++ (hazard_pieces b.hazards ++ (codes ",\"height\":" ++ (decimal b.height
    ++ (codes ",\"min_food\":" ++ (decimal b.min_food ++ (codes ",\"mode\":" ++ (compact_text (string (mode_text b.mode)) ++ (codes ",\"over\":" ++ (compact_text (boolean over)
    ++ codes ",\"snakes\":"))))))))))))

-- The rest of a board, after its snakes.
abbrev pub back_pieces : Board → List ℕ
back_pieces b = codes ",\"turn\":" ++ (decimal b.turn ++ (codes ",\"width\":" ++ (decimal b.width ++ codes "}")))
