-- The bytes of a board.
use Rattle.std.specs.Prelude.{ℕ, ◌+◌, ◌/◌, ◌%◌, Bool, if◌then◌else◌, List, [], ◌∷◌, ◌++◌, length, Option, Some, None, is_some, unwrap_or, flat_map, pos, ◌+ℤ◌, nat_abs}
use Rattle.bs_board.specs.declared.boards.point.Point.{Point}
use Rattle.bs_board.specs.declared.boards.board.Board.{Board}
use Rattle.bs_board.specs.declared.boards.board.Mode.{Mode}
use Rattle.bs_board.specs.declared.boards.board.Mode.TheVariants.{Standard, Solo, Constrictor, Wrapped}
use Rattle.bs_board.specs.declared.boards.hazards.Hazards.{Hazards}
use Rattle.bs_board.specs.declared.boards.snake.Snake.{Snake}
use Rattle.bs_board.specs.declared.boards.snake.Cause.{Cause}
use Rattle.bs_board.specs.declared.boards.snake.Cause.TheVariants.{OutOfHealth, WallCollision, SelfCollision, BodyCollision, HeadCollision, Hazard}

-- the higher byte first
abbrev pub two_bytes : ℕ → List ℕ
two_bytes n = n / 256 ∷ n % 256 ∷ []

abbrev pub mode_byte : Mode → ℕ
mode_byte Standard = 0
mode_byte Solo = 1
mode_byte Constrictor = 2
mode_byte Wrapped = 3

-- the record's version without hazards, which depends on the mode alone
abbrev pub plain_version : Mode → ℕ
plain_version Standard = 1
plain_version Solo = 1
plain_version Constrictor = 1
plain_version Wrapped = 2

-- the record's version
abbrev pub version_byte : Bool → Mode → ℕ
version_byte hazardous mode = if hazardous then 3 else plain_version mode

abbrev pub cause_byte : Option Cause → ℕ
cause_byte None = 0
cause_byte (Some OutOfHealth) = 1
cause_byte (Some WallCollision) = 2
cause_byte (Some SelfCollision) = 3
cause_byte (Some BodyCollision) = 4
cause_byte (Some HeadCollision) = 5
cause_byte (Some Hazard) = 6

-- the seat plus 1
abbrev pub killer_byte : Option ℕ → ℕ
killer_byte None = 0
killer_byte (Some seat) = seat + 1

-- the column and the row, each with an offset added: 1 in a body, since its head may be one cell
-- outside the board
abbrev pub cell_bytes : ℕ → Point → List ℕ
cell_bytes raised p = nat_abs (p.x +ℤ pos raised) ∷ nat_abs (p.y +ℤ pos raised) ∷ []

-- the bytes between the id and the parts
abbrev pub state_bytes : Snake → List ℕ
state_bytes s =
    (s.health ∷ cause_byte s.cause ∷ killer_byte s.killer ∷ two_bytes (unwrap_or s.out 0)) ++ two_bytes (length s.body)

unfoldable pub snake_record : Snake → List ℕ
snake_record s = (length s.id ∷ s.id) ++ state_bytes s ++ flat_map (cell_bytes 1) s.body

-- the bytes before the cells of the food
abbrev pub head_bytes : Board → List ℕ
head_bytes b =
    (version_byte (is_some b.hazards) b.mode ∷ mode_byte b.mode ∷ b.width ∷ b.height ∷ two_bytes b.turn)
    ++ (b.min_food ∷ b.chance ∷ length b.snakes ∷ two_bytes (length b.food))

-- the damage, the number of the cells, and the cells; nothing if there are no hazards
unfoldable pub hazard_bytes : Option Hazards → List ℕ
hazard_bytes None = []
hazard_bytes (Some h) = (h.damage ∷ two_bytes (length h.cells)) ++ flat_map (cell_bytes 0) h.cells

unfoldable pub record_of : Board → List ℕ
record_of b =
    head_bytes b
    ++ flat_map (cell_bytes 0) b.food
    ++ hazard_bytes b.hazards
    ++ flat_map snake_record b.snakes
