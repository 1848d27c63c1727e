-- A turn of many games.
use Rattle.std.specs.Prelude.{◌≡◌, ℕ, ◌<◌, ◌≤◌, false, List, take}
use Rattle.bs_board.specs.declared.boards.board.Board.{Board}
use Rattle.bs_board.specs.declared.limits.TheConstants.{LAST_TURN, MOST_WORDS}
use Rattle.bs_board.specs.boards.Over.{is_over}
use Rattle.bs_board.specs.commands.Orders.{Orders}
use Rattle.bs_batch.specs.declared.layout.Head.{Head}
use Rattle.bs_batch.specs.declared.layout.LargeGame.{LargeGame}
use Rattle.bs_batch.specs.declared.layout.SmallGame.{SmallGame}
use Rattle.bs_batch.specs.Hazards.{ShowsHazards}
use Rattle.bs_batch.specs.Lasting.{IsLasting}
use Rattle.bs_batch.specs.Shown.{ShowsGame}
use Rattle.bs_batch.specs.Starting.{AreSettings, piece_of}
use Rattle.bs_batch.specs.Turn.{AreOrders, IsPlayed}

-- not over, below the last turn, and with the settings of a board
pub record MayStep (longest : ℕ) (head : Head) : Type 0 where
  pub open_game : head.over ≡ 0
  pub early : head.turn < LAST_TURN
  pub settings : AreSettings longest head.settings

-- the words of a game are the first 32 of its piece
abbrev pub words_of : List ℕ → ℕ → ℕ → List ℕ
words_of words number each = take MOST_WORDS (piece_of words number each)

-- the turn of a game whose memory shows a lasting board with sides of at most `longest`, by the
-- hazards beside it
abbrev pub PlaysGame : ℕ → List ℕ → List ℕ → List ℕ → ℕ → Head → List ℕ → List ℕ → List ℕ → Head → List ℕ → List ℕ → List ℕ → Type 0
PlaysGame longest moves words counts damage head food plane bodies head' food' plane' bodies' =
    (b : Board) (orders : Orders) → ShowsGame head food plane bodies b → IsLasting b → b.turn < LAST_TURN → is_over b ≡ false
    → b.width ≤ longest → b.height ≤ longest → ShowsHazards counts damage b → AreOrders moves words b orders → IsPlayed orders b head' food' plane' bodies'

-- the turn of a small game; another game stays as it is
pub record StepsSmall (moves words counts : List ℕ) (damage : ℕ) (old new : SmallGame) : Type 0 where
  pub plays : PlaysGame 11 moves words counts damage old.head old.food old.plane old.bodies new.head new.food new.plane new.bodies
  pub stays : (MayStep 11 old.head → ⊥) → new ≡ old

pub record StepsLarge (moves words counts : List ℕ) (damage : ℕ) (old new : LargeGame) : Type 0 where
  pub plays : PlaysGame 25 moves words counts damage old.head old.food old.plane old.bodies new.head new.food new.plane new.bodies
  pub stays : (MayStep 25 old.head → ⊥) → new ≡ old
