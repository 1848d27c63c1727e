-- The value of a final line has no float.
use Rattle.std.proofs.Common.{◌≡◌, ℕ, ℤ, pos, negsuc, List, [], ◌∷◌, false, Option, Some, None, map, refl}
use Rattle.serde_json.specs.Data.{Data}
use Rattle.serde_json.specs.Find.{is_float, of_integer}
use Rattle.serde_json.specs.View.{items_of}
use Rattle.serde_json.specs.Written.{has_float, items_have_float}
use Rattle.bs_board.specs.declared.boards.point.Point.{Point}
use Rattle.bs_board.specs.declared.boards.board.Board.{Board}
use Rattle.bs_board.specs.declared.boards.hazards.Hazards.{Hazards}
use Rattle.bs_board.specs.declared.boards.snake.Snake.{Snake}
use Rattle.bs_board.specs.declared.boards.snake.Cause.{Cause}
use Rattle.bs_json.specs.Boards.{cell_data, cause_data, killer_data, id_data, out_data, snake_data, board_data}
use Rattle.bs_json.specs.Replies.{last_data, final_data}

integer_is_no_float : (z : ℤ) → is_float (of_integer z) ≡ false
integer_is_no_float (pos n) = refl
integer_is_no_float (negsuc n) = refl

cell_has_no_float : (p : Point) → has_float (cell_data p) ≡ false
cell_has_no_float p = rw (integer_is_no_float p.x, integer_is_no_float p.y)

-- a list of values without floats
list_has_no_float : {A : Type 0} (f : A → Data) → ((a : A) → has_float (f a) ≡ false) → (xs : List A) → items_have_float (items_of (map f xs)) ≡ false
list_has_no_float f none [] = refl
list_has_no_float f none (a ∷ rest) = rw (none a) (list_has_no_float f none rest)

cause_has_no_float : (cause : Option Cause) → has_float (cause_data cause) ≡ false
cause_has_no_float None = refl
cause_has_no_float (Some cause) = refl

id_has_no_float : (snake : Option Snake) → has_float (id_data snake) ≡ false
id_has_no_float None = refl
id_has_no_float (Some snake) = refl

killer_has_no_float : (snakes : List Snake) (killer : Option ℕ) → has_float (killer_data snakes killer) ≡ false
killer_has_no_float snakes killer = id_has_no_float _

out_has_no_float : (out : Option ℕ) → has_float (out_data out) ≡ false
out_has_no_float None = refl
out_has_no_float (Some turn) = refl

snake_has_no_float : (snakes : List Snake) (s : Snake) → has_float (snake_data snakes s) ≡ false
unfolding snake_data
snake_has_no_float snakes s =
    rw (list_has_no_float cell_data cell_has_no_float s.body, killer_has_no_float snakes s.killer, cause_has_no_float s.cause, out_has_no_float s.out)

board_with_no_float : (b : Board) (hazards : Option Hazards) → has_float (board_data (record b { hazards = hazards })) ≡ false
unfolding board_data
board_with_no_float b None =
    rw (list_has_no_float cell_data cell_has_no_float b.food, list_has_no_float (snake_data b.snakes) (snake_has_no_float b.snakes) b.snakes)
board_with_no_float b (Some h) =
    rw (
      list_has_no_float cell_data cell_has_no_float b.food,
      list_has_no_float cell_data cell_has_no_float h.cells,
      list_has_no_float (snake_data b.snakes) (snake_has_no_float b.snakes) b.snakes,
    )

board_has_no_float : (b : Board) → has_float (board_data b) ≡ false
board_has_no_float b = board_with_no_float b b.hazards

last_has_no_float : (board : Option Board) → has_float (last_data board) ≡ false
last_has_no_float None = refl
last_has_no_float (Some board) = board_has_no_float board

pub final_has_no_float : (game : List ℕ) (board : Option Board) (charge : ℕ) → has_float (final_data game board charge) ≡ false
unfolding final_data
final_has_no_float game board charge = rw (last_has_no_float board)
