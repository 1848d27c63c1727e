-- The step of one snake in a turn in which it does not go out.
use Rattle.std.specs.Prelude.{◌≡◌, ℕ, ◌-◌, ◌≤◌, Bool, true, cond, List, [], ◌∷◌, ◌++◌, length, take, Option, None, slice_index_or}
use Rattle.std.specs.List.{list_any}
use Rattle.bs_board.specs.declared.boards.board.Board.{Board}
use Rattle.bs_board.specs.declared.boards.board.Mode.{Mode}
use Rattle.bs_board.specs.declared.boards.point.Direction.{Direction}
use Rattle.bs_board.specs.declared.boards.point.Point.{Point}
use Rattle.bs_board.specs.declared.boards.snake.Snake.{Snake}
use Rattle.bs_board.specs.declared.limits.TheConstants.{FULL_HEALTH}
use Rattle.bs_board.specs.declared.records.layout.SnakeBytes.{SnakeBytes}
use Rattle.bs_board.specs.boards.Cell.{head_of, is_on_board, is_same_cell, origin}
use Rattle.bs_board.specs.boards.Over.{is_living}
use Rattle.bs_board.specs.records.Layout.{IsSnakeBytes, cells_of}
use Rattle.bs_board.specs.records.Writing.{IsWritable}
use Rattle.bs_rules.specs.Feeding.{last_of}
use Rattle.bs_plane.specs.declared.cell.Cell.{Cell}
use Rattle.bs_plane.specs.declared.motion.Step.{Step}
use Rattle.bs_plane.specs.declared.plane.Plane.{Plane}
use Rattle.bs_plane.specs.Plane.{Shows}
use Rattle.bs_plane.specs.inner.Plane.{with_body}
use Rattle.bs_board.specs.records.Record.{snake_record}
use Rattle.bs_plane.specs.Onward.{grown_in, onward_by, LivesOn}

-- a snake with full health that ate, with its last part once more
abbrev pub fed_by : Bool → Snake → Snake
fed_by eats s = cond eats (record s { body = s.body ++ last_of s.body ∷ []; health = FULL_HEALTH }) s

-- a snake with a new head, without its last part
abbrev pub advanced : Point → Snake → Snake
advanced head s = record s { body = head ∷ take (length s.body - 1) s.body; health = s.health - 1 }

-- the part before the last one, which is last after a step
abbrev pub repeated : Snake → Point
repeated s = slice_index_or s.body (length s.body - 2) origin

-- the snake after the step
abbrev pub stepped_by : Step → Snake → Snake
stepped_by step s = record s { body = (step.head ∷ take (length s.body - 1) s.body) ++ cond step.grows (repeated s ∷ []) []; health = step.health }

-- a view of a living snake of a board
pub record SeesSnake (s : Snake) (parts : SnakeBytes) : Type 0 where
  pub view : IsSnakeBytes s parts
  pub fits : IsWritable s
  pub lives : is_living s ≡ true
  pub long : 3 ≤ length s.body
  pub killer : s.killer ≡ None
  pub out : s.out ≡ None

-- the step of a snake that ate, or did not
abbrev pub IsFed : Mode → SnakeBytes → Point → Bool → Step → Type 0
IsFed mode parts head eats step =
    (s : Snake) → SeesSnake s parts
    → (step.head ≡ head) × (1 ≤ (fed_by eats (advanced head s)).health) × (stepped_by step s ≡ grown_in mode (fed_by eats (advanced head s)))

-- food and hazards of the plane are those of the board
pub record HasGround (b : Board) (plane : Plane) : Type 0 where
  pub width : plane.width ≡ b.width
  pub height : plane.height ≡ b.height
  pub on : Point → Cell
  pub shows : Shows on plane
  pub food : (p : Point) → (on p).food ≡ list_any (is_same_cell p) b.food
  pub hazard : (p : Point) → (on p).hazard ≡ list_any (is_same_cell p) (cells_of b.hazards)

-- the step of a snake in a turn in which it does not go out
pub record IsStep (b : Board) (given : Option Direction) (s : Snake) (step : Step) : Type 0 where
  pub is : stepped_by step s ≡ onward_by b given s
  pub lives : LivesOn b given s
  pub on : is_on_board b.width b.height step.head ≡ true

-- another body in place of one
pub record SwapsBody (old_body new_body : List Point) (old new : Plane) : Type 0 where
  pub width : new.width ≡ old.width
  pub height : new.height ≡ old.height
  pub cells : (on : Point → Cell) → Shows (with_body old_body on) old → Shows (with_body new_body on) new

-- a living snake moved, with a new head, on the plane and in bytes
pub record MovesSnake (b : Board) (given : Option Direction) (s : Snake) (head : Point) (old new : Plane) (bytes bytes' : List ℕ) : Type 0 where
  pub swaps : SwapsBody s.body (onward_by b given s).body old new
  pub written : bytes' ≡ bytes ++ snake_record (onward_by b given s)
  pub leads : head_of (onward_by b given s).body ≡ head
  pub lives : LivesOn b given s
  pub fits : IsWritable (onward_by b given s)
