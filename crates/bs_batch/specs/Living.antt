-- The number of living snakes.
use Rattle.std.specs.Prelude.{◌≡◌, ℕ, ◌<◌, List, length, count_by, cond}
use Rattle.bs_board.specs.declared.boards.board.Board.{Board}
use Rattle.bs_board.specs.declared.boards.snake.Snake.{Snake}
use Rattle.bs_board.specs.boards.Over.{is_living, is_over}
use Rattle.bs_board.specs.records.Record.{cause_byte, mode_byte}
use Rattle.bs_rules.specs.Collision.{snake_at}
use Rattle.bs_batch.specs.declared.layout.Head.{Head}
use Rattle.bs_batch.specs.Shown.{seat_at}

-- the seats have the causes of the snakes
pub record ShowsCauses (head : Head) (snakes : List Snake) : Type 0 where
  pub seats : head.settings.seats ≡ length snakes
  pub causes : (seat : ℕ) → seat < length snakes → (seat_at head.seats seat).cause ≡ cause_byte (snake_at snakes seat).cause

-- the number of living snakes, and whether the game is over; nothing else changes
abbrev pub CountsBoard : Head → Head → Type 0
CountsBoard old new =
    (b : Board) → old.settings.mode ≡ mode_byte b.mode → ShowsCauses old b.snakes
    → new ≡ record old { living = count_by is_living b.snakes; over = cond (is_over b) 1 0 }
