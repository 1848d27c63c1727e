use Rattle.std.proofs.Common.{◌≡◌, List, take}
use Rattle.std.specs.Prelude.{flat_map}
use Rattle.bs_board.specs.declared.boards.snake.Snake.{Snake}
use Rattle.bs_fiber.specs.Tickets.{bytes_of, frames_in}
use Rattle.bs_fiber.specs.inner.Frames.{HoldAll}
use Rattle.bs_fiber.proofs.frames.read_all.Given as goal

-- the parts read so far
abbrev pub invariant-loop-part : goal.invariant-loop-part
invariant-loop-part g l =
    (all : List (List Snake)) → HoldAll all l.parts (bytes_of (frames_in l.frames)) → l.seats.items ≡ flat_map (λ part. part) (take l.part all)
