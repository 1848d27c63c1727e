-- The steps of the judgement of collisions.
use Rattle.std.specs.Prelude.{◌≡◌, ℕ, ◌<◌, ◌≤◌, ◌==◌, Bool, true, cond, List, length, drop, All, MatchOption, Option}
use Rattle.std.specs.List.{list_any}
use Rattle.bs_board.specs.declared.boards.snake.Cause.{Cause}
use Rattle.bs_board.specs.declared.boards.snake.Snake.{Snake}
use Rattle.bs_board.specs.boards.Cell.{head_of}
use Rattle.bs_board.specs.boards.Over.{is_living}
use Rattle.bs_rules.specs.Collision.{collides, collision_verdict, killer_of, longer_of, snake_at}
use Rattle.bs_batch.specs.declared.collisions.Verdict.{Verdict as VerdictBytes}
use Rattle.bs_batch.specs.declared.layout.Head.{Head}
use Rattle.bs_batch.specs.Numbers.{number_of}
use Rattle.bs_batch.specs.Shown.{HasBody, ShowsSnakes, seat_byte}
use Rattle.bs_batch.specs.inner.Eliminations.{IsVerdictIf}

abbrev pub is_later_number : List ℕ → ℕ → Bool
is_later_number body cell = list_any (λ part. part == cell) (drop 1 body)

-- the snakes that are judged, with their bodies on the board or next to it
pub record ShowsJudged (head : Head) (bodies : List ℕ) (width height : ℕ) (snakes : List Snake) : Type 0 where
  pub seats : head.settings.seats ≡ length snakes
  pub few : length snakes ≤ 8
  pub narrow : width ≤ 25
  pub snakes_shown : ShowsSnakes head.seats bodies snakes
  pub bodies_near : All (HasBody width height) snakes

-- none, or one of the seats
abbrev pub IsSeat : List Snake → Option ℕ → Type 0
IsSeat snakes killer = MatchOption killer (Unit {0}) (λ seat. seat < length snakes)

-- the longer of two killers, if the other is hit
abbrev pub IsLonger : Head → ℕ → ℕ → Bool → ℕ → Type 0
IsLonger head killer other hit result =
    (bodies : List ℕ) (width height : ℕ) (snakes : List Snake) (so_far : Option ℕ) → ShowsJudged head bodies width height snakes
    → IsSeat snakes so_far → other < length snakes → killer ≡ seat_byte so_far → result ≡ seat_byte (cond hit (longer_of snakes so_far other) so_far)

-- P holds of the living snake at the seat, whose head is on the cell
abbrev pub ForJudged : Head → List ℕ → ℕ → ℕ → (List Snake → Type 0) → Type 0
ForJudged head bodies seat cell P =
    (width height : ℕ) (snakes : List Snake) → ShowsJudged head bodies width height snakes → seat < length snakes
    → is_living (snake_at snakes seat) ≡ true → cell ≡ number_of (head_of (snake_at snakes seat).body) → P snakes

abbrev pub Hits : Cause → Head → List ℕ → ℕ → ℕ → ℕ → Bool → Type 0
Hits cause head bodies seat cell other result =
    ForJudged head bodies seat cell (λ snakes. other < length snakes → result ≡ collides snakes seat cause other)

abbrev pub FindsKiller : Cause → Head → List ℕ → ℕ → ℕ → ℕ → Type 0
FindsKiller cause head bodies seat cell result =
    ForJudged head bodies seat cell (λ snakes. result ≡ seat_byte (killer_of snakes seat cause))

abbrev pub Judges : Head → List ℕ → ℕ → VerdictBytes → Type 0
Judges head bodies seat result =
    (width height : ℕ) (snakes : List Snake) → ShowsJudged head bodies width height snakes → seat < length snakes
    → is_living (snake_at snakes seat) ≡ true → IsVerdictIf result (collision_verdict snakes seat)

-- the same of a seat that may be out
abbrev pub JudgesSeat : Head → List ℕ → ℕ → VerdictBytes → Type 0
JudgesSeat head bodies seat result =
    (width height : ℕ) (snakes : List Snake) → ShowsJudged head bodies width height snakes → seat < length snakes
    → IsVerdictIf result (collision_verdict snakes seat)

abbrev pub spared : VerdictBytes
spared = record { cause = 0; killer = 0 }
