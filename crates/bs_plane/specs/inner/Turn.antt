-- A turn on the plane and in bytes.
use Rattle.std.specs.Prelude.{◌≡◌, ℕ, ◌<◌, true, false, None, List, [], All, length, map}
use Rattle.bs_board.specs.declared.boards.board.Board.{Board}
use Rattle.bs_board.specs.declared.boards.point.Direction.{Direction}
use Rattle.bs_board.specs.declared.boards.point.Point.{Point}
use Rattle.bs_board.specs.declared.limits.TheConstants.{LAST_TURN}
use Rattle.bs_board.specs.boards.Legal.{IsLegal}
use Rattle.bs_board.specs.boards.Over.{is_over}
use Rattle.bs_board.specs.commands.Orders.{Orders}
use Rattle.bs_board.specs.commands.Setup.{is_side}
use Rattle.bs_rules.specs.Turn.{turn_of}
use Rattle.bs_board.specs.declared.records.layout.BoardBytes.{BoardBytes}
use Rattle.bs_board.specs.records.Layout.{IsBoardBytes}
use Rattle.bs_board.specs.records.Record.{record_of}
use Rattle.bs_board.specs.records.Writing.{IsByteCell}
use Rattle.bs_plane.specs.declared.plane.Plane.{Plane}
use Rattle.bs_plane.specs.Food.{HasFood}
use Rattle.bs_plane.specs.Onward.{ShowsSnakes, living_heads, onward}
use Rattle.bs_plane.specs.Plane.{ShowsBoard}
use Rattle.bs_plane.specs.Turn.{fed_onward}

-- the plane and the bytes of the food, after the snakes' own turn
abbrev pub Refills : (Board → Board) → BoardBytes → List Point → Plane → List ℕ → Plane → List ℕ → Type 0
Refills more parts heads old food new food' =
    (b : Board) (moves : List (List ℕ × Direction)) → IsBoardBytes b parts → All (IsByteCell 0) b.food
    → ShowsSnakes b (map (onward b moves) b.snakes) old → heads ≡ living_heads (map (onward b moves) b.snakes) → food ≡ []
    → HasFood (more (fed_onward b moves)) new food'

-- the plane can follow the turn, unless a snake goes out
pub record MayStep (parts : BoardBytes) (orders : Orders) : Type 0 where
  pub no_hazards : orders.hazards ≡ None
  pub wide : is_side parts.width ≡ true
  pub high : is_side parts.height ≡ true
  pub early : parts.turn < LAST_TURN
  pub few : parts.seats < 256
  pub short : length parts.hazards.now < 131000

-- the turn of a game that is not over, on the plane and in bytes
pub record Plays (b : Board) (orders : Orders) (plane : Plane) (bytes : List ℕ) : Type 0 where
  pub goes_on : is_over b ≡ false
  pub shows : ShowsBoard (turn_of b orders) plane
  pub written : bytes ≡ record_of (turn_of b orders)

-- the turn of the board that these are the parts of
abbrev pub PlaysFrom : BoardBytes → Orders → Plane → Plane → List ℕ → Type 0
PlaysFrom parts orders old new bytes = (b : Board) → IsLegal b → IsBoardBytes b parts → ShowsBoard b old → Plays b orders new bytes
