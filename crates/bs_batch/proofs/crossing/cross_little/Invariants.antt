use Rattle.std.proofs.Common.{◌≡◌, ℕ, ◌<◌, get_or}
use Rattle.bs_board.specs.declared.boards.board.Board.{Board}
use Rattle.bs_board.specs.declared.boards.snake.Snake.{Snake}
use Rattle.bs_board.specs.boards.Legal.{IsLegal}
use Rattle.bs_batch.specs.Lasting.{CrossesLittle}
use Rattle.bs_batch.proofs.crossing.cross_little.Given as goal

-- the snakes so far cross themselves at most once
abbrev pub invariant-loop-snake : goal.invariant-loop-snake
invariant-loop-snake l =
    (b : Board) → IsLegal b → l.snakes ≡ b.snakes → (k : ℕ) (d : Snake) → k < l.snake-index → CrossesLittle b.width b.height (get_or b.snakes k d)
