-- The turn that a plane can follow.
use Rattle.std.specs.Prelude.{◌≡◌, ℕ, ◌+◌, ◌<◌, true, None, List, length, map}
use Rattle.bs_board.specs.declared.boards.board.Board.{Board}
use Rattle.bs_board.specs.declared.boards.board.Mode.{Mode}
use Rattle.bs_board.specs.declared.boards.board.Mode.TheVariants.{Standard, Solo, Constrictor, Wrapped}
use Rattle.bs_board.specs.declared.boards.point.Direction.{Direction}
use Rattle.bs_board.specs.boards.Cell.{head_of}
use Rattle.bs_board.specs.boards.Over.{is_living}
use Rattle.bs_board.specs.commands.Orders.{Orders, given_to}
use Rattle.bs_rules.specs.Collision.{snake_at}
use Rattle.bs_rules.specs.Feeding.{food_left}
use Rattle.bs_rules.specs.Turn.{refilled, turn_of}
use Rattle.bs_plane.specs.Onward.{LivesOn, onward}
use Rattle.bs_plane.specs.Plane.{occupants}

-- all snakes moved, fed and grown, without the food that was eaten
abbrev pub fed_onward : Board → List (List ℕ × Direction) → Board
fed_onward b moves = record b { food = food_left (map (onward b moves) b.snakes) b.food; snakes = map (onward b moves) b.snakes }

-- new food and the food that the move gives, but in constrictor
abbrev pub refilled_in : Mode → Orders → Board → Board
refilled_in Standard orders b = refilled orders b
refilled_in Solo orders b = refilled orders b
refilled_in Constrictor orders b = b
refilled_in Wrapped orders b = refilled orders b

abbrev pub followed : Board → Orders → Board
followed b orders = record (refilled_in b.mode orders (fed_onward b orders.moves)) { turn = b.turn + 1 }

-- no snake goes out: each living one lives on, and its head is the only part on its cell
pub record GoOn (b : Board) (moves : List (List ℕ × Direction)) : Type 0 where
  pub live : (seat : ℕ) → seat < length b.snakes → is_living (snake_at b.snakes seat) ≡ true → LivesOn b (given_to moves (snake_at b.snakes seat).id) (snake_at b.snakes seat)
  pub alone : (seat : ℕ) → seat < length b.snakes → is_living (snake_at (map (onward b moves) b.snakes) seat) ≡ true
      → occupants (map (onward b moves) b.snakes) (head_of (snake_at (map (onward b moves) b.snakes) seat).body) ≡ 1

-- where no snake goes out and no hazards are given, this is the turn
abbrev pub QuietLaw : Type 0
QuietLaw = (b : Board) (orders : Orders) → GoOn b orders.moves → orders.hazards ≡ None → turn_of b orders ≡ followed b orders
