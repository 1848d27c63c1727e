-- The steps of a turn on the whole memory of a game.
use Rattle.std.specs.Prelude.{◌≡◌, ℕ, ◌+◌, ◌<◌, ◌≤◌, true, List, length, None, slice_index_or}
use Rattle.bs_board.specs.declared.boards.board.Board.{Board}
use Rattle.bs_board.specs.declared.boards.point.Point.{Point}
use Rattle.bs_board.specs.boards.Cell.{is_on_board}
use Rattle.bs_board.specs.boards.Wrap.{wrap_of}
use Rattle.bs_board.specs.commands.Orders.{Orders}
use Rattle.bs_rules.specs.Collision.{map_seats}
use Rattle.bs_rules.specs.Feeding.{fed}
use Rattle.bs_rules.specs.Motion.{moved}
use Rattle.bs_rules.specs.Turn.{replenished}
use Rattle.bs_batch.specs.declared.layout.Head.{Head}
use Rattle.bs_batch.specs.Directions.{given_by}
use Rattle.bs_batch.specs.Food.{CanSpawn}
use Rattle.bs_batch.specs.Shown.{HasRoom, ShowsFood, ShowsGame, ShowsSeats}
use Rattle.bs_batch.specs.inner.Seats.{CanGrowAt, CanMoveAt}

-- The memory shows the seats and the food of a board. Within a turn the number of living snakes may
-- be older.
pub record ShowsBoard (head : Head) (cells plane bodies : List ℕ) (b : Board) : Type 0 where
  pub seats : ShowsSeats head plane bodies b
  pub food : ShowsFood head.foods cells b.food

-- the snakes after a motion by a byte for each seat, before they eat
abbrev pub moved_each : List ℕ → Board → Board
moved_each moves b = record b { snakes = map_seats (λ seat s. moved (wrap_of b) (given_by (slice_index_or moves seat 4)) s) b.snakes }

-- all seats are moved, and eat
pub record AreFed (moves : List ℕ) (b : Board) (head' : Head) (food' plane' bodies' : List ℕ) : Type 0 where
  pub shows : ShowsBoard head' food' plane' bodies' (fed (moved_each moves b))
  pub room : (more : ℕ) → HasRoom (more + 16) b → HasRoom more (fed (moved_each moves b))

abbrev pub MovesAndFeeds : List ℕ → Head → List ℕ → List ℕ → List ℕ → Head → List ℕ → List ℕ → List ℕ → Type 0
MovesAndFeeds moves head food plane bodies head' food' plane' bodies' =
    (b : Board) → ShowsBoard head food plane bodies b → HasRoom 16 b → ((seat : ℕ) → CanMoveAt bodies b seat) → length food ≤ 1024
    → ((cell : ℕ) (d : Point) → cell < length b.food → is_on_board b.width b.height (slice_index_or b.food cell d) ≡ true)
    → AreFed moves b head' food' plane' bodies'

-- growth in constrictor, and in the other modes new food
abbrev pub Replenishes : List ℕ → Head → List ℕ → List ℕ → List ℕ → Head → List ℕ → List ℕ → List ℕ → Type 0
Replenishes words head food plane bodies head' food' plane' bodies' =
    (b : Board) (orders : Orders) → ShowsBoard head food plane bodies b → HasRoom 8 b → ((seat : ℕ) → CanGrowAt bodies b seat) → CanSpawn food b
    → orders.words ≡ words → orders.food ≡ None → ShowsBoard head' food' plane' bodies' (replenished b.mode orders b)

-- the turn number rises, and the living snakes are counted
abbrev pub EndsTurn : Head → Head → Type 0
EndsTurn head head' =
    (food plane bodies : List ℕ) (b : Board) → ShowsBoard head food plane bodies b → b.turn < 10000
    → ShowsGame head' food plane bodies (record b { turn = b.turn + 1 })
