-- The steps by which hazards hurt one seat.
use Rattle.std.specs.Prelude.{◌≡◌, ℕ, ◌+◌, ◌<◌, ◌≤◌, true, List, length}
use Rattle.bs_board.specs.declared.boards.board.Board.{Board}
use Rattle.bs_board.specs.declared.boards.point.Point.{Point}
use Rattle.bs_board.specs.boards.Legal.{is_near}
use Rattle.bs_board.specs.boards.Over.{is_living}
use Rattle.bs_rules.specs.Collision.{snake_at}
use Rattle.bs_batch.specs.declared.layout.Head.{Head}
use Rattle.bs_batch.specs.declared.layout.Settings.{Settings}
use Rattle.bs_batch.specs.Eliminations.{with_snake}
use Rattle.bs_batch.specs.Hurting.{count_on, with_health}
use Rattle.bs_batch.specs.Numbers.{number_of}
use Rattle.bs_batch.specs.Shown.{HasRoom, ShowsSeats}

abbrev pub CountsAt : Settings → List ℕ → ℕ → ℕ → Type 0
CountsAt s counts cell result =
    (p : Point) → s.width ≤ 25 → is_near s.width s.height p ≡ true → cell ≡ number_of p → result ≡ count_on s.width s.height counts p

abbrev pub SetsHealth : ℕ → ℕ → List ℕ → Head → List ℕ → Head → List ℕ → Type 0
SetsHealth seat health bodies head plane head' plane' =
    (b : Board) → ShowsSeats head plane bodies b → HasRoom 0 b → seat < length b.snakes → is_living (snake_at b.snakes seat) ≡ true
    → ShowsSeats head' plane' bodies (with_snake b seat (with_health (b.turn + 1) health (snake_at b.snakes seat)))
