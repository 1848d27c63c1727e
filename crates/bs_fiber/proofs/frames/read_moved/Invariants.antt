use Rattle.std.proofs.Common.{◌≡◌, List, ◌++◌, take}
use Rattle.bs_board.specs.declared.boards.snake.Snake.{Snake}
use Rattle.bs_fiber.specs.inner.Frames.{HoldsSnakes}
use Rattle.bs_fiber.proofs.frames.read_moved.Given as goal

-- the snakes read so far
abbrev pub invariant-loop-piece : goal.invariant-loop-piece
invariant-loop-piece g l = (snakes : List Snake) → HoldsSnakes snakes l.moved l.owned.block → l.seats.items ≡ l.fn.seats.items ++ take l.piece-index snakes
