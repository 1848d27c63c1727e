-- The eliminations, seat by seat.
use Rattle.std.specs.Prelude.{◌≡◌, ℕ, ◌+◌, ◌<◌, ◌≤◌, true, List, length, MatchOption, Option, is_some, option_map}
use Rattle.bs_board.specs.declared.boards.board.Board.{Board}
use Rattle.bs_board.specs.declared.boards.snake.Snake.{Snake}
use Rattle.bs_board.specs.boards.Wrap.{is_wrapped}
use Rattle.bs_board.specs.boards.Over.{is_living}
use Rattle.bs_board.specs.records.Record.{cause_byte}
use Rattle.bs_rules.specs.declared.verdict.Verdict.{Verdict}
use Rattle.bs_rules.specs.Collision.{snake_at}
use Rattle.bs_rules.specs.Elimination.{judged, starved_or_outside_snake, starved_or_outside_verdict}
use Rattle.bs_batch.specs.declared.collisions.Verdict.{Verdict as VerdictBytes}
use Rattle.bs_batch.specs.declared.layout.Head.{Head}
use Rattle.bs_batch.specs.declared.layout.Settings.{Settings}
use Rattle.bs_batch.specs.Eliminations.{IsVerdict, with_snake}
use Rattle.bs_batch.specs.Numbers.{numbers_of}
use Rattle.bs_batch.specs.Shown.{HasBody, HasRoom, ShowsSeats, ShowsSettings}

-- a step that changes the snake of one seat
abbrev pub ChangesSeat : (Board → Snake → Snake) → ℕ → List ℕ → Head → List ℕ → Head → List ℕ → Type 0
ChangesSeat change seat bodies head plane head' plane' =
    (b : Board) → ShowsSeats head plane bodies b → HasRoom 0 b → seat < length b.snakes
    → ShowsSeats head' plane' bodies (with_snake b seat (change b (snake_at b.snakes seat)))

abbrev pub starved_or_outside_at : Board → Snake → Snake
starved_or_outside_at b = starved_or_outside_snake (is_wrapped b.mode) b.width b.height (b.turn + 1)

-- the byte of the cause of a snake that starved or left the board
abbrev pub IsFirstCause : Settings → ℕ → List ℕ → ℕ → Type 0
IsFirstCause settings health body result =
    (b : Board) (s : Snake) → ShowsSettings settings b → b.width ≤ 25 → HasBody b.width b.height s → health ≡ s.health → body ≡ numbers_of s.body
    → result ≡ cause_byte (option_map (λ v. v.cause) (starved_or_outside_verdict (is_wrapped b.mode) b.width b.height s))

-- the verdict in bytes; 0 for none
abbrev pub IsVerdictIf : VerdictBytes → Option Verdict → Type 0
IsVerdictIf bytes verdict = MatchOption verdict (bytes.cause ≡ 0) (IsVerdict bytes)

-- the living snake of the seat is eliminated, if there is a verdict
abbrev pub PutsOut : ℕ → VerdictBytes → List ℕ → Head → List ℕ → Head → List ℕ → Type 0
PutsOut seat bytes bodies head plane head' plane' =
    (b : Board) (verdict : Option Verdict) → IsVerdictIf bytes verdict → ShowsSeats head plane bodies b → HasRoom 0 b → seat < length b.snakes
    → (is_some verdict ≡ true → is_living (snake_at b.snakes seat) ≡ true)
    → ShowsSeats head' plane' bodies (with_snake b seat (judged (b.turn + 1) verdict (snake_at b.snakes seat)))
