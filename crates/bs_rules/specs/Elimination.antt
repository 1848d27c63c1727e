-- The elimination of snakes, and the first eliminations of a turn: starved snakes and snakes off
-- the board.
use Rattle.std.specs.Prelude.{ℕ, ◌+◌, Bool, ◌||◌, if◌then◌else◌, map, nat_eq, Option, Some, None}
use Rattle.bs_board.specs.declared.boards.board.Board.{Board}
use Rattle.bs_board.specs.declared.boards.snake.Snake.{Snake}
use Rattle.bs_board.specs.declared.boards.snake.Cause.TheVariants.{OutOfHealth, WallCollision}
use Rattle.bs_board.specs.boards.Cell.{head_of, is_on_board}
use Rattle.bs_board.specs.boards.Over.{is_living}
use Rattle.bs_board.specs.boards.Wrap.{is_wrapped}
use Rattle.bs_rules.specs.declared.verdict.Verdict.{Verdict}

-- eliminated in that turn by the verdict, if there is one; body and health are unchanged
abbrev pub judged : ℕ → Option Verdict → Snake → Snake
judged turn None s = s
judged turn (Some v) s = record s { cause = Some v.cause; killer = v.killer; out = Some turn }

-- starved, else off a board that is not wrapped; there is no killer
abbrev pub starved_or_outside_verdict : Bool → ℕ → ℕ → Snake → Option Verdict
starved_or_outside_verdict wraps width height s =
    if nat_eq s.health 0 then Some (record { cause = OutOfHealth; killer = None })
    else if wraps || is_on_board width height (head_of s.body) then None
    else Some (record { cause = WallCollision; killer = None })

abbrev pub starved_or_outside_snake : Bool → ℕ → ℕ → ℕ → Snake → Snake
starved_or_outside_snake wraps width height turn s = if is_living s then judged turn (starved_or_outside_verdict wraps width height s) s else s

-- the board's turn number is still that of the turn before
abbrev pub starved_or_outside : Board → Board
starved_or_outside b = record b { snakes = map (starved_or_outside_snake (is_wrapped b.mode) b.width b.height (b.turn + 1)) b.snakes }
