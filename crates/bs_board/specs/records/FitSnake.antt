-- The snakes that can be written as bytes of their own: the record of one snake, as it lies in a
-- frame block.
use Rattle.std.specs.Prelude.{◌≡◌, ℕ, ◌+◌, ◌<◌, ◌≤◌, true, length, All, MatchOption, Option}
use Rattle.bs_board.specs.declared.boards.snake.Snake.{Snake}
use Rattle.bs_board.specs.declared.limits.TheConstants.{FIRST_PARTS, FULL_HEALTH, LAST_TURN, LONGEST_SIDE, MOST_SNAKES}
use Rattle.bs_board.specs.boards.Legal.{is_near}
use Rattle.bs_board.specs.Texts.{is_short_text}

-- none, or a seat of a board
abbrev pub IsKillerInRange : Option ℕ → Type 0
IsKillerInRange killer = MatchOption killer (Unit {0}) (λ seat. seat < MOST_SNAKES)

-- none, or the number of a turn that is played
abbrev pub IsOutInRange : Option ℕ → Type 0
IsOutInRange out = MatchOption out (Unit {0}) (λ turn. (1 ≤ turn) × (turn ≤ LAST_TURN))

-- Each field is in its own range, whatever the other fields and the board are. So a snake that has
-- just moved fits: it may have health 0, or its head off the board, and no cause yet.
pub record IsFitSnake (s : Snake) : Type 0 where
  pub id : is_short_text s.id ≡ true
  pub health : s.health ≤ FULL_HEALTH
  pub killer : IsKillerInRange s.killer
  pub out : IsOutInRange s.out
  pub long : FIRST_PARTS ≤ length s.body
  pub short : length s.body ≤ LAST_TURN + FIRST_PARTS
  -- at most one cell beyond an edge of the largest board
  pub near : All (λ p. is_near LONGEST_SIDE LONGEST_SIDE p ≡ true) s.body
