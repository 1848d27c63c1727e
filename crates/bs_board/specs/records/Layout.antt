-- When a view shows the parts of a record.
use Rattle.std.specs.Prelude.{◌≡◌, ℕ, List, [], length, flat_map, Option, Some, None, is_some}
use Rattle.bs_board.specs.declared.boards.board.Board.{Board}
use Rattle.bs_board.specs.declared.boards.hazards.Hazards.{Hazards}
use Rattle.bs_board.specs.declared.boards.point.Point.{Point}
use Rattle.bs_board.specs.declared.boards.snake.Snake.{Snake}
use Rattle.bs_board.specs.declared.records.layout.SnakeBytes.{SnakeBytes}
use Rattle.bs_board.specs.declared.records.layout.BoardBytes.{BoardBytes}
use Rattle.bs_board.specs.records.Record.{cell_bytes, snake_record}
use Rattle.bs_board.specs.records.Writing.{IsWritable}

-- The view shows that snake's record. A turn of 0 cannot be told from none.
pub record IsSnakeBytes (s : Snake) (parts : SnakeBytes) : Type 0 where
  pub id : parts.id.now ≡ s.id
  pub health : parts.health ≡ s.health
  pub cause : parts.cause ≡ s.cause
  pub killer : parts.killer ≡ s.killer
  pub out : IsWritable s → parts.out ≡ s.out
  pub body : parts.body.now ≡ flat_map (cell_bytes 1) s.body

abbrev pub damage_of : Option Hazards → ℕ
damage_of None = 0
damage_of (Some h) = h.damage

abbrev pub cells_of : Option Hazards → List Point
cells_of None = []
cells_of (Some h) = h.cells

-- The view shows that board's record.
pub record IsBoardBytes (b : Board) (parts : BoardBytes) : Type 0 where
  pub mode : parts.mode ≡ b.mode
  pub width : parts.width ≡ b.width
  pub height : parts.height ≡ b.height
  pub turn : parts.turn ≡ b.turn
  pub min_food : parts.min_food ≡ b.min_food
  pub chance : parts.chance ≡ b.chance
  pub food : parts.food.now ≡ flat_map (cell_bytes 0) b.food
  pub hazardous : parts.hazardous ≡ is_some b.hazards
  pub damage : parts.damage ≡ damage_of b.hazards
  pub hazards : parts.hazards.now ≡ flat_map (cell_bytes 0) (cells_of b.hazards)
  pub seats : parts.seats ≡ length b.snakes
  pub snakes : parts.snakes.now ≡ flat_map snake_record b.snakes
