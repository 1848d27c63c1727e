-- A turn of a game in memory.
use Rattle.std.specs.Prelude.{◌≡◌, ℕ, ◌+◌, ◌*◌, ◌/◌, ◌<◌, ◌≤◌, List, length, None, slice_index_or}
use Rattle.bs_board.specs.declared.boards.board.Board.{Board}
use Rattle.bs_board.specs.declared.limits.TheConstants.{LAST_TURN}
use Rattle.bs_board.specs.commands.Orders.{Orders, given_to}
use Rattle.bs_rules.specs.Collision.{snake_at}
use Rattle.bs_rules.specs.Hurting.{hazards_after}
use Rattle.bs_rules.specs.Turn.{turn_of}
use Rattle.bs_batch.specs.declared.layout.Head.{Head}
use Rattle.bs_batch.specs.Directions.{given_by}
use Rattle.bs_batch.specs.Hazards.{ShowsHazards}
use Rattle.bs_batch.specs.Lasting.{IsLasting}
use Rattle.bs_batch.specs.Shown.{ShowsGame}

-- lists with room for food on each cell, and for a body of four parts more than there are cells
pub record HasLists (food bodies : List ℕ) (b : Board) : Type 0 where
  pub cells : b.width * b.height ≤ length food
  pub few : length food ≤ 1024
  pub long : b.width * b.height + 4 ≤ length bodies / 8
  pub small : length bodies < 65536

-- A direction for each seat by its byte, straight on where there is none, and words; no food is given.
-- Hazards may be given: no game has them, so they hurt when they are beside its next turn.
pub record AreOrders (moves words : List ℕ) (b : Board) (orders : Orders) : Type 0 where
  pub directions : (seat : ℕ) → seat < length b.snakes → given_to orders.moves (snake_at b.snakes seat).id ≡ given_by (slice_index_or moves seat 4)
  pub given : orders.words ≡ words
  pub food : orders.food ≡ None

-- the memory shows the board after the turn, of which the next turn is exact too
pub record IsPlayed (orders : Orders) (b : Board) (head' : Head) (food' plane' bodies' : List ℕ) : Type 0 where
  pub shows : ShowsGame head' food' plane' bodies' (turn_of b orders)
  pub lasting : IsLasting (turn_of b orders)
  pub hazards : (turn_of b orders).hazards ≡ hazards_after b.width b.height orders.hazards b.hazards

abbrev pub PlaysTurn : List ℕ → List ℕ → List ℕ → ℕ → Head → List ℕ → List ℕ → List ℕ → Head → List ℕ → List ℕ → List ℕ → Type 0
PlaysTurn moves words counts damage head food plane bodies head' food' plane' bodies' =
    (b : Board) (orders : Orders) → ShowsGame head food plane bodies b → IsLasting b → b.turn < LAST_TURN → HasLists food bodies b
    → ShowsHazards counts damage b → AreOrders moves words b orders → IsPlayed orders b head' food' plane' bodies'
