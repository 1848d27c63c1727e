-- The boards that a game can reach.
use Rattle.std.specs.Prelude.{◌≡◌, ◌≢◌, ℕ, ◌+◌, ◌<◌, ◌≤◌, Bool, true, not, ◌&&◌, if◌then◌else◌, List, length, slice_index_or, drop, All, MatchOption, Some, None, Option, is_some, pos, negsuc, int_le}
use Rattle.bs_board.specs.declared.boards.point.Point.{Point}
use Rattle.bs_board.specs.declared.boards.board.Board.{Board}
use Rattle.bs_board.specs.declared.boards.board.Mode.{Mode}
use Rattle.bs_board.specs.declared.boards.board.Mode.TheVariants.{Standard, Solo, Constrictor, Wrapped}
use Rattle.bs_board.specs.declared.boards.snake.Snake.{Snake}
use Rattle.bs_board.specs.declared.boards.snake.Cause.{Cause}
use Rattle.bs_board.specs.declared.boards.snake.Cause.TheVariants.{OutOfHealth, WallCollision, SelfCollision, BodyCollision, HeadCollision, Hazard}
use Rattle.bs_board.specs.declared.limits.TheConstants.{FIRST_PARTS, FULL_HEALTH, LAST_TURN, MOST_CHANCE, MOST_MIN_FOOD, MOST_SNAKES}
use Rattle.bs_board.specs.boards.Cell.{head_of, is_on_board}
use Rattle.bs_board.specs.boards.Hazards.{are_fit_hazards}
use Rattle.bs_board.specs.boards.Wrap.{is_wrapped}
use Rattle.bs_board.specs.Distinct.{are_distinct}
use Rattle.bs_board.specs.commands.Setup.{is_side, is_fit_food}
use Rattle.bs_board.specs.Texts.{is_same_text, is_short_text}

-- on the board, or one cell beyond an edge
abbrev pub is_near : ℕ → ℕ → Point → Bool
is_near width height p =
    int_le (negsuc 0) p.x && int_le p.x (pos width) && int_le (negsuc 0) p.y && int_le p.y (pos height)

-- P holds of each seat and its snake
abbrev pub EachSeat : (ℕ → Snake → Type 0) → List Snake → Type 0
EachSeat P snakes = (seat : ℕ) (d : Snake) → seat < length snakes → P seat (slice_index_or snakes seat d)

abbrev pub are_distinct_ids : List Snake → Bool
are_distinct_ids = are_distinct (λ s t. is_same_text s.id t.id)

pub record IsWithinLimits (b : Board) : Type 0 where
  pub width : is_side b.width ≡ true
  pub height : is_side b.height ≡ true
  pub turn : b.turn ≤ LAST_TURN
  pub chance : b.chance ≤ MOST_CHANCE
  pub some : 1 ≤ length b.snakes
  pub few : length b.snakes ≤ MOST_SNAKES

-- constrictor has no food
abbrev pub IsFreeOfFood : Mode → List Point → Type 0
IsFreeOfFood Standard food = Unit {0}
IsFreeOfFood Solo food = Unit {0}
IsFreeOfFood Constrictor food = length food ≡ 0
IsFreeOfFood Wrapped food = Unit {0}

-- distinct cells of the board, and a minimum that fits into a byte
pub record IsLegalFood (b : Board) : Type 0 where
  pub fits : is_fit_food b.width b.height b.food ≡ true
  pub mode : IsFreeOfFood b.mode b.food
  pub minimum : b.min_food ≤ MOST_MIN_FOOD

-- 3 to `turn + 3` parts, all after the head on the board
pub record IsLegalBody (b : Board) (body : List Point) : Type 0 where
  pub long : FIRST_PARTS ≤ length body
  pub short : length body ≤ b.turn + FIRST_PARTS
  pub inside : All (λ p. is_on_board b.width b.height p ≡ true) (drop 1 body)

pub record IsLegalLiving (b : Board) (s : Snake) : Type 0 where
  pub fed : 1 ≤ s.health
  pub full : s.health ≤ FULL_HEALTH
  pub head : is_on_board b.width b.height (head_of s.body) ≡ true
  pub killer : s.killer ≡ None
  pub out : s.out ≡ None

abbrev pub IsHealthOf : Cause → ℕ → Type 0
IsHealthOf OutOfHealth health = health ≡ 0
IsHealthOf WallCollision health = (1 ≤ health) × (health ≤ FULL_HEALTH)
IsHealthOf SelfCollision health = (1 ≤ health) × (health ≤ FULL_HEALTH)
IsHealthOf BodyCollision health = (1 ≤ health) × (health ≤ FULL_HEALTH)
IsHealthOf HeadCollision health = (1 ≤ health) × (health ≤ FULL_HEALTH)
IsHealthOf Hazard health = health ≡ 0

-- where the head may be: on the board or next to it if the snake starved, next to the board if it
-- hit the wall, on the board after any other cause; on a wrapped board always on the board, and no
-- snake is eliminated by the wall
abbrev pub is_head_of : Bool → Cause → ℕ → ℕ → Point → Bool
is_head_of wraps OutOfHealth width height p = if wraps then is_on_board width height p else is_near width height p
is_head_of wraps WallCollision width height p = not wraps && is_near width height p && not (is_on_board width height p)
is_head_of wraps SelfCollision width height p = is_on_board width height p
is_head_of wraps BodyCollision width height p = is_on_board width height p
is_head_of wraps HeadCollision width height p = is_on_board width height p
is_head_of wraps Hazard width height p = is_on_board width height p

-- only hazards eliminate by a hazard
abbrev pub may_cause : Bool → Cause → Bool
may_cause hazardous OutOfHealth = true
may_cause hazardous WallCollision = true
may_cause hazardous SelfCollision = true
may_cause hazardous BodyCollision = true
may_cause hazardous HeadCollision = true
may_cause hazardous Hazard = hazardous

-- none, the snake itself, or another seat
abbrev pub IsOtherSeat : ℕ → ℕ → Option ℕ → Type 0
IsOtherSeat seats seat killer = MatchOption killer ⊥ (λ k. (k < seats) × (k ≢ seat))

abbrev pub IsKillerOf : Cause → ℕ → ℕ → Option ℕ → Type 0
IsKillerOf OutOfHealth seats seat killer = killer ≡ None
IsKillerOf WallCollision seats seat killer = killer ≡ None
IsKillerOf SelfCollision seats seat killer = killer ≡ Some seat
IsKillerOf BodyCollision seats seat killer = IsOtherSeat seats seat killer
IsKillerOf HeadCollision seats seat killer = IsOtherSeat seats seat killer
IsKillerOf Hazard seats seat killer = killer ≡ None

-- the number of a turn that was played
abbrev pub IsTurnBy : ℕ → Option ℕ → Type 0
IsTurnBy turn out = MatchOption out ⊥ (λ t. (1 ≤ t) × (t ≤ turn))

pub record IsLegalOut (b : Board) (seat : ℕ) (s : Snake) (cause : Cause) : Type 0 where
  pub out : IsTurnBy b.turn s.out
  pub health : IsHealthOf cause s.health
  pub head : is_head_of (is_wrapped b.mode) cause b.width b.height (head_of s.body) ≡ true
  pub killer : IsKillerOf cause (length b.snakes) seat s.killer
  pub hazard : may_cause (is_some b.hazards) cause ≡ true

pub record IsLegalSnake (b : Board) (seat : ℕ) (s : Snake) : Type 0 where
  pub id : is_short_text s.id ≡ true
  pub body : IsLegalBody b s.body
  pub state : MatchOption s.cause (IsLegalLiving b s) (IsLegalOut b seat s)

pub record IsLegal (b : Board) : Type 0 where
  pub limits : IsWithinLimits b
  pub food : IsLegalFood b
  pub hazards : are_fit_hazards b.width b.height b.hazards ≡ true
  pub ids : are_distinct_ids b.snakes ≡ true
  pub snakes : EachSeat (IsLegalSnake b) b.snakes
