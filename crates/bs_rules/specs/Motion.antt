-- The motion of a snake in a turn.
use Rattle.std.specs.Prelude.{◌≡◌, ℕ, ◌-◌, ◌≤◌, true, if◌then◌else◌, List, [], ◌∷◌, length, take, map, find, All, Option, Some, None, unwrap_or, slice_index_or, pos, ◌+ℤ◌, ◌-ℤ◌}
use Rattle.std.specs.Int.{int_rem_euclid}
use Rattle.bs_board.specs.declared.boards.point.Point.{Point}
use Rattle.bs_board.specs.declared.boards.point.Direction.{Direction}
use Rattle.bs_board.specs.declared.boards.point.Direction.TheVariants.{Up, Down, Left, Right}
use Rattle.bs_board.specs.declared.boards.board.Board.{Board}
use Rattle.bs_board.specs.declared.boards.snake.Snake.{Snake}
use Rattle.bs_board.specs.declared.limits.TheConstants.{LONGEST_SIDE}
use Rattle.bs_board.specs.boards.Cell.{origin, head_of, is_same_cell}
use Rattle.bs_board.specs.boards.Legal.{is_near}
use Rattle.bs_board.specs.boards.Over.{is_living}
use Rattle.bs_board.specs.boards.Wrap.{wrap_of}
pub use Rattle.bs_board.specs.commands.Orders.{given_to}

-- one cell further
abbrev pub one_step : Point → Direction → Point
one_step p Up = record p { y = p.y +ℤ pos 1 }
one_step p Down = record p { y = p.y -ℤ pos 1 }
one_step p Left = record p { x = p.x -ℤ pos 1 }
one_step p Right = record p { x = p.x +ℤ pos 1 }

-- on a wrapped board the column modulo the width and the row modulo the height
abbrev pub on_torus : Option (ℕ × ℕ) → Point → Point
on_torus None p = p
on_torus (Some sides) p = record { x = int_rem_euclid p.x (pos sides.0); y = int_rem_euclid p.y (pos sides.1) }

-- one cell further, modulo the sides of a wrapped board
abbrev pub neighbor : Option (ℕ × ℕ) → Point → Direction → Point
neighbor wrap p d = on_torus wrap (one_step p d)

abbrev pub second_of : List Point → Point
second_of body = slice_index_or body 1 origin

-- the direction in which the second part has the head as its neighbor; up if there is none
abbrev pub onward : Option (ℕ × ℕ) → List Point → Direction
onward wrap body = unwrap_or (find (λ d. is_same_cell (neighbor wrap (second_of body) d) (head_of body)) (Down ∷ Left ∷ Right ∷ Up ∷ [])) Up

-- the given direction, else straight on
abbrev pub direction_taken : Option (ℕ × ℕ) → Option Direction → List Point → Direction
direction_taken wrap (Some given) body = given
direction_taken wrap None body = onward wrap body

-- a new head in front, and the last part removed
abbrev pub moved_body : Option (ℕ × ℕ) → Option Direction → List Point → List Point
moved_body wrap given body = neighbor wrap (head_of body) (direction_taken wrap given body) ∷ take (length body - 1) body

-- a living snake moved one step, with one health less; one that is out is unchanged
abbrev pub moved : Option (ℕ × ℕ) → Option Direction → Snake → Snake
moved wrap given s = if is_living s then record s { body = moved_body wrap given s.body; health = s.health - 1 } else s

-- any number of seats, each moved in the direction given for its id
abbrev pub moved_seats : Option (ℕ × ℕ) → List (List ℕ × Direction) → List Snake → List Snake
moved_seats wrap moves = map (λ s. moved wrap (given_to moves s.id) s)

abbrev pub moved_board : List (List ℕ × Direction) → Board → Board
moved_board moves b = record b { snakes = moved_seats (wrap_of b) moves b.snakes }

-- a body whose parts have neighbors, as in each snake of a legal board: no part is more than one
-- cell outside the largest board
pub record IsMovable (s : Snake) : Type 0 where
  pub some : 1 ≤ length s.body
  pub near : All (λ p. is_near LONGEST_SIDE LONGEST_SIDE p ≡ true) s.body
