-- The JSON value of a board.
use Rattle.std.specs.Prelude.{ℕ, codes, List, [], ◌∷◌, ◌++◌, Option, Some, None, option_and_then, map, slice_get}
use Rattle.serde_json.specs.Data.{Data, null, boolean, number, string, array, object, unsigned, Members, no_members, member}
use Rattle.serde_json.specs.Find.{of_integer}
use Rattle.serde_json.specs.View.{items_of}
use Rattle.bs_board.specs.declared.boards.point.Point.{Point}
use Rattle.bs_board.specs.declared.boards.board.Board.{Board}
use Rattle.bs_board.specs.declared.boards.board.Mode.{Mode}
use Rattle.bs_board.specs.declared.boards.board.Mode.TheVariants.{Standard, Solo, Constrictor, Wrapped}
use Rattle.bs_board.specs.declared.boards.hazards.Hazards.{Hazards}
use Rattle.bs_board.specs.declared.boards.snake.Snake.{Snake}
use Rattle.bs_board.specs.declared.boards.snake.Cause.{Cause}
use Rattle.bs_board.specs.declared.boards.snake.Cause.TheVariants.{OutOfHealth, WallCollision, SelfCollision, BodyCollision, HeadCollision, Hazard}
use Rattle.bs_board.specs.boards.Over.{is_over}

abbrev pub members_from : List (List ℕ × Data) → Members
members_from [] = no_members
members_from (m ∷ ms) = member m.0 m.1 (members_from ms)

-- an object of these members, in the order of their names
abbrev pub object_of : List (List ℕ × Data) → Data
object_of ms = object (members_from ms)

abbrev pub whole_data : ℕ → Data
whole_data n = number (unsigned n)

abbrev pub mode_text : Mode → List ℕ
mode_text Standard = codes "standard"
mode_text Solo = codes "solo"
mode_text Constrictor = codes "constrictor"
mode_text Wrapped = codes "wrapped"

abbrev pub cause_text : Cause → List ℕ
cause_text OutOfHealth = codes "out-of-health"
cause_text WallCollision = codes "wall-collision"
cause_text SelfCollision = codes "snake-self-collision"
cause_text BodyCollision = codes "snake-collision"
cause_text HeadCollision = codes "head-collision"
cause_text Hazard = codes "hazard"

abbrev pub cause_data : Option Cause → Data
cause_data None = null
cause_data (Some cause) = string (cause_text cause)

abbrev pub id_data : Option Snake → Data
id_data None = null
id_data (Some snake) = string snake.id

-- the id of the snake in that seat
abbrev pub killer_data : List Snake → Option ℕ → Data
killer_data snakes seat = id_data (option_and_then (slice_get snakes) seat)

abbrev pub out_data : Option ℕ → Data
out_data None = null
out_data (Some turn) = whole_data turn

abbrev pub cell_data : Point → Data
cell_data p = object_of ((codes "x", number (of_integer p.x)) ∷ (codes "y", number (of_integer p.y)) ∷ [])

abbrev pub cells_data : List Point → Data
cells_data cells = array (items_of (map cell_data cells))

unfoldable pub snake_data : List Snake → Snake → Data
snake_data snakes s = object_of (
    (codes "body", cells_data s.body)
    ∷ (codes "by", killer_data snakes s.killer)
    ∷ (codes "cause", cause_data s.cause)
    ∷ (codes "health", whole_data s.health)
    ∷ (codes "id", string s.id)
    ∷ (codes "out", out_data s.out)
    ∷ [])

abbrev pub snakes_data : List Snake → Data
snakes_data snakes = array (items_of (map (snake_data snakes) snakes))

-- no members in a game without hazards
abbrev pub hazard_members : Option Hazards → List (List ℕ × Data)
hazard_members None = []
hazard_members (Some h) = (codes "hazard_damage", whole_data h.damage) ∷ (codes "hazards", cells_data h.cells) ∷ []

unfoldable pub board_data : Board → Data
board_data b = object_of (
    (codes "food", cells_data b.food)
    ∷ (codes "food_chance", whole_data b.chance)
    ∷ (hazard_members b.hazards ++ ((codes "height", whole_data b.height)
    ∷ (codes "min_food", whole_data b.min_food)
    ∷ (codes "mode", string (mode_text b.mode))
    ∷ (codes "over", boolean (is_over b))
    ∷ (codes "snakes", snakes_data b.snakes)
    ∷ (codes "turn", whole_data b.turn)
    ∷ (codes "width", whole_data b.width)
    ∷ [])))
