-- The steps of the decoder, which only the contracts of its private functions cite. For callers
-- `decode` defines the meaning of bytes: they are the record of a legal board, or of none. A reader
-- gives a value and the bytes after it, or nothing if there is no value.
use Rattle.std.specs.Prelude.{◌≡◌, ◌==◌, ℕ, zero, suc, ◌+◌, ◌*◌, ◌-◌, Bool, true, false, ◌&&◌, if◌then◌else◌, List, [], ◌∷◌, length, take, drop, find, Option, Some, None, Result, Ok, Err, nat_lt, pos, ◌-ℤ◌}
use Rattle.bs_board.specs.declared.boards.board.Board.{Board}
use Rattle.bs_board.specs.declared.boards.board.Mode.{Mode}
use Rattle.bs_board.specs.declared.boards.board.Mode.TheVariants.{Standard, Solo, Constrictor, Wrapped}
use Rattle.bs_board.specs.declared.records.decode_error.Decode.{Decode}
use Rattle.bs_board.specs.declared.records.decode_error.Decode.TheVariants.{NotARecord, Memory}
use Rattle.bs_board.specs.declared.records.decoding.Head.{Head}
use Rattle.bs_board.specs.declared.records.decoding.State.{State}
use Rattle.bs_board.specs.declared.boards.hazards.Hazards.{Hazards}
use Rattle.bs_board.specs.declared.boards.point.Point.{Point}
use Rattle.bs_board.specs.declared.boards.snake.Snake.{Snake}
use Rattle.bs_board.specs.declared.boards.snake.Cause.{Cause}
use Rattle.bs_board.specs.declared.boards.snake.Cause.TheVariants.{OutOfHealth, WallCollision, SelfCollision, BodyCollision, HeadCollision, Hazard}
use Rattle.bs_board.specs.records.Record.{mode_byte, version_byte, cause_byte}

infixl 10 ◌>>=◌
abbrev pub ◌>>=◌ : {A B : Type 0} → Option A → (A → Option B) → Option B
(Some x) >>= f = f x
None >>= f = None

-- what a function returned, as view sees it, is what is read, unless memory ran out
abbrev pub Fails : {Y : Type 0} → Decode → Option Y → Type 0
Fails NotARecord read = read ≡ None
Fails Memory read = Unit {0}

abbrev pub Gives : {X Y : Type 0} → (X → Y) → Result X Decode → Option Y → Type 0
Gives view (Ok x) read = read ≡ Some (view x)
Gives view (Err error) read = Fails error read

-- each mode, without hazards and with hazards
abbrev pub all_kinds : List (Bool × Mode)
all_kinds =
    (false, Standard) ∷ (false, Solo) ∷ (false, Constrictor) ∷ (false, Wrapped)
    ∷ (true, Standard) ∷ (true, Solo) ∷ (true, Constrictor) ∷ (true, Wrapped) ∷ []

-- whether there are hazards, and the mode, by the version and the mode's byte; and the cause with
-- that byte
abbrev pub kind_from_bytes : ℕ → ℕ → Option (Bool × Mode)
kind_from_bytes version byte = find (λ kind. version_byte kind.0 kind.1 == version && mode_byte kind.1 == byte) all_kinds

abbrev pub cause_from_byte : ℕ → Option (Option Cause)
cause_from_byte byte =
    find (λ cause. cause_byte cause == byte)
    (None ∷ Some OutOfHealth ∷ Some WallCollision ∷ Some SelfCollision ∷ Some BodyCollision ∷ Some HeadCollision ∷ Some Hazard ∷ [])

abbrev pub killer_from_byte : ℕ → Option ℕ
killer_from_byte byte = if byte == 0 then None else Some (byte - 1)

abbrev pub out_from_number : ℕ → Option ℕ
out_from_number number = if number == 0 then None else Some number

abbrev pub from_two_bytes : ℕ → ℕ → ℕ
from_two_bytes high low = high * 256 + low

unfoldable pub read_cell : ℕ → List ℕ → Option (Point × List ℕ)
read_cell raised (x ∷ y ∷ rest) = Some (record { x = pos x -ℤ pos raised; y = pos y -ℤ pos raised }, rest)
read_cell raised (x ∷ []) = None
read_cell raised [] = None

-- `count` values, one after the other
unfoldable pub read_many : {X : Type 0} → (List ℕ → Option (X × List ℕ)) → ℕ → List ℕ → Option (List X × List ℕ)
read_many one zero bytes = Some ([], bytes)
read_many one (suc count) bytes = do
  first ← one bytes
  others ← read_many one count first.1
  Some (first.0 ∷ others.0, others.1)

unfoldable pub read_state : List ℕ → Option (State × List ℕ)
read_state (health ∷ cause_is ∷ killer ∷ out_high ∷ out_low ∷ parts_high ∷ parts_low ∷ rest) = do
  cause ← cause_from_byte cause_is
  Some (
    record {
      health = health;
      cause = cause;
      killer = killer_from_byte killer;
      out = out_from_number (from_two_bytes out_high out_low);
      parts = from_two_bytes parts_high parts_low;
    },
    rest,
  )
read_state _ = None

-- a length, and that many bytes
unfoldable pub read_piece : List ℕ → Option (List ℕ × List ℕ)
read_piece (len ∷ rest) = if nat_lt (length rest) len then None else Some (take len rest, drop len rest)
read_piece [] = None

unfoldable pub read_id : (List ℕ → Bool) → List ℕ → Option (List ℕ × List ℕ)
read_id is_text bytes = do
  piece ← read_piece bytes
  if is_text piece.0 then Some piece else None

unfoldable pub read_snake : (List ℕ → Bool) → List ℕ → Option (Snake × List ℕ)
read_snake is_text bytes = do
  id ← read_id is_text bytes
  state ← read_state id.1
  body ← read_many (read_cell 1) state.0.parts state.1
  Some (
    record {
      id = id.0;
      body = body.0;
      health = state.0.health;
      cause = state.0.cause;
      killer = state.0.killer;
      out = state.0.out;
    },
    body.1,
  )

-- a snake that takes all of the bytes
unfoldable pub read_only_snake : (List ℕ → Bool) → List ℕ → Option Snake
read_only_snake is_text bytes = do
  snake ← read_snake is_text bytes
  if length snake.1 == 0 then Some snake.0 else None

unfoldable pub read_head : List ℕ → Option (Head × List ℕ)
read_head (version ∷ mode_is ∷ width ∷ height ∷ turn_high ∷ turn_low ∷ min_food ∷ chance ∷ snakes ∷ food_high ∷ food_low ∷ rest) = do
  kind ← kind_from_bytes version mode_is
  Some (
    record {
      hazardous = kind.0;
      mode = kind.1;
      width = width;
      height = height;
      turn = from_two_bytes turn_high turn_low;
      min_food = min_food;
      chance = chance;
      snakes = snakes;
      food = from_two_bytes food_high food_low;
    },
    rest,
  )
read_head _ = None

-- a damage, and a number of cells with that many cells; nothing where there are no hazards
unfoldable pub read_hazards : Bool → List ℕ → Option (Option Hazards × List ℕ)
read_hazards false bytes = Some (None, bytes)
read_hazards true (damage ∷ high ∷ low ∷ rest) = do
  cells ← read_many (read_cell 0) (from_two_bytes high low) rest
  Some (Some (record { damage = damage; cells = cells.0 }), cells.1)
read_hazards true _ = None

-- a board that takes all of the bytes
unfoldable pub read_board : (List ℕ → Bool) → List ℕ → Option Board
read_board is_text bytes = do
  head ← read_head bytes
  food ← read_many (read_cell 0) head.0.food head.1
  hazards ← read_hazards head.0.hazardous food.1
  snakes ← read_many (read_snake is_text) head.0.snakes hazards.1
  if length snakes.1 == 0 then Some (record {
    mode = head.0.mode;
    width = head.0.width;
    height = head.0.height;
    turn = head.0.turn;
    min_food = head.0.min_food;
    chance = head.0.chance;
    food = food.0;
    hazards = hazards.0;
    snakes = snakes.0;
  }) else None

-- ---- reading parts of a record that is known to be one

-- the board without its snakes
unfoldable pub read_without_snakes : List ℕ → Option Board
read_without_snakes bytes = do
  head ← read_head bytes
  food ← read_many (read_cell 0) head.0.food head.1
  hazards ← read_hazards head.0.hazardous food.1
  Some (record {
    mode = head.0.mode;
    width = head.0.width;
    height = head.0.height;
    turn = head.0.turn;
    min_food = head.0.min_food;
    chance = head.0.chance;
    food = food.0;
    hazards = hazards.0;
    snakes = [];
  })
