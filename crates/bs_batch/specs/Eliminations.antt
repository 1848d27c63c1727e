-- The elimination of one snake.
use Rattle.std.specs.Prelude.{◌≡◌, ℕ, ◌+◌, ◌<◌, true, List, length, slice_set, Some}
use Rattle.bs_board.specs.declared.boards.board.Board.{Board}
use Rattle.bs_board.specs.declared.boards.snake.Snake.{Snake}
use Rattle.bs_board.specs.boards.Over.{is_living}
use Rattle.bs_board.specs.records.Record.{cause_byte}
use Rattle.bs_rules.specs.declared.verdict.Verdict.{Verdict}
use Rattle.bs_rules.specs.Collision.{snake_at}
use Rattle.bs_rules.specs.Elimination.{judged}
use Rattle.bs_batch.specs.declared.collisions.Verdict.{Verdict as VerdictBytes}
use Rattle.bs_batch.specs.declared.layout.Head.{Head}
use Rattle.bs_batch.specs.Shown.{HasRoom, ShowsSeats, seat_byte}

-- the verdict in bytes
pub record IsVerdict (bytes : VerdictBytes) (v : Verdict) : Type 0 where
  pub cause : bytes.cause ≡ cause_byte (Some v.cause)
  pub killer : bytes.killer ≡ seat_byte v.killer

-- the board with another snake at a seat
abbrev pub with_snake : Board → ℕ → Snake → Board
with_snake b seat s = record b { snakes = slice_set b.snakes seat s }

-- the snake of the seat is eliminated in the turn that is played
abbrev pub put_out : Board → ℕ → Verdict → Board
put_out b seat v = with_snake b seat (judged (b.turn + 1) (Some v) (snake_at b.snakes seat))

abbrev pub Eliminates : ℕ → VerdictBytes → List ℕ → Head → List ℕ → Head → List ℕ → Type 0
Eliminates seat bytes bodies head plane head' plane' =
    (b : Board) (v : Verdict) → IsVerdict bytes v → ShowsSeats head plane bodies b → HasRoom 0 b → seat < length b.snakes
    → is_living (snake_at b.snakes seat) ≡ true → ShowsSeats head' plane' bodies (put_out b seat v)
