-- Collisions of a turn. All are judged on the one board after the first eliminations, and applied
-- together.
use Rattle.std.specs.Prelude.{◌≡◌, ◌≢◌, ℕ, ◌+◌, ◌<◌, ◌≤◌, Bool, true, false, not, ◌&&◌, ◌⊎◌, if◌then◌else◌, List, [], ◌∷◌, length, map, filter, fold, find, drop, Contains, nat_eq, nat_lt, nat_le, Option, Some, None, is_some, option_map, slice_index_or}
use Rattle.std.specs.List.{list_any, range_with_len, enumerate_from}
use Rattle.bs_board.specs.declared.boards.board.Board.{Board}
use Rattle.bs_board.specs.declared.boards.snake.Snake.{Snake}
use Rattle.bs_board.specs.declared.boards.snake.Cause.{Cause}
use Rattle.bs_board.specs.declared.boards.snake.Cause.TheVariants.{OutOfHealth, WallCollision, SelfCollision, BodyCollision, HeadCollision, Hazard}
use Rattle.bs_board.specs.boards.Cell.{head_of, is_same_cell}
use Rattle.bs_board.specs.boards.Legal.{EachSeat}
use Rattle.bs_board.specs.boards.Over.{is_living}
use Rattle.bs_rules.specs.declared.verdict.Verdict.{Verdict}
use Rattle.bs_rules.specs.Elimination.{judged}

-- the snake of a seat that does not exist, which is not alive
abbrev pub nobody : Snake
nobody = record { id = []; body = []; health = 0; cause = Some OutOfHealth; killer = None; out = None }

abbrev pub snake_at : List Snake → ℕ → Snake
snake_at snakes seat = slice_index_or snakes seat nobody

abbrev pub length_at : List Snake → ℕ → ℕ
length_at snakes seat = length (snake_at snakes seat).body

-- The relation: which snake collides with which, and which one is the killer.

-- the head of s is on a part, not the head, of t
abbrev pub IsOnLaterPart : Snake → Snake → Type 0
IsOnLaterPart s t = Contains (drop 1 t.body) (head_of s.body)

-- s, at seat i, runs into t, at seat j: into itself, into the body of another, or head to head with
-- another that is at least as long
abbrev pub RunsInto : Cause → ℕ → Snake → ℕ → Snake → Type 0
RunsInto OutOfHealth i s j t = ⊥
RunsInto WallCollision i s j t = ⊥
RunsInto SelfCollision i s j t = (i ≡ j) × IsOnLaterPart s t
RunsInto BodyCollision i s j t = (i ≢ j) × IsOnLaterPart s t
RunsInto HeadCollision i s j t = (i ≢ j) × (head_of s.body ≡ head_of t.body) × (length s.body ≤ length t.body)
RunsInto Hazard i s j t = ⊥

-- both are alive, and the one runs into the other
pub record CollidesWith (snakes : List Snake) (seat : ℕ) (cause : Cause) (other : ℕ) : Type 0 where
  pub alive : is_living (snake_at snakes seat) ≡ true
  pub both : is_living (snake_at snakes other) ≡ true
  pub hit : RunsInto cause seat (snake_at snakes seat) other (snake_at snakes other)

-- the longest candidate, and of equally long ones the first
pub record IsKiller (snakes : List Snake) (seat : ℕ) (cause : Cause) (killer : ℕ) : Type 0 where
  pub within : killer < length snakes
  pub collides : CollidesWith snakes seat cause killer
  pub longest : (other : ℕ) → CollidesWith snakes seat cause other → length_at snakes other ≤ length_at snakes killer
  pub first : (other : ℕ) → other < killer → CollidesWith snakes seat cause other → length_at snakes other < length_at snakes killer

abbrev pub EscapesBy : List Snake → ℕ → Cause → Type 0
EscapesBy snakes seat cause = (other : ℕ) → CollidesWith snakes seat cause other → ⊥

-- the causes that are judged before this one
abbrev pub EscapesBefore : List Snake → ℕ → Cause → Type 0
EscapesBefore snakes seat OutOfHealth = Unit {0}
EscapesBefore snakes seat WallCollision = Unit {0}
EscapesBefore snakes seat SelfCollision = Unit {0}
EscapesBefore snakes seat BodyCollision = EscapesBy snakes seat SelfCollision
EscapesBefore snakes seat HeadCollision = EscapesBy snakes seat SelfCollision × EscapesBy snakes seat BodyCollision
EscapesBefore snakes seat Hazard = Unit {0}

-- the snake of that seat, eliminated by the killer
pub record IsPutOut (old : Board) (seat : ℕ) (cause : Cause) (killer : ℕ) (now : Snake) : Type 0 where
  pub earlier : EscapesBefore old.snakes seat cause
  pub longest : IsKiller old.snakes seat cause killer
  pub rest : now ≡ record (snake_at old.snakes seat) { cause = Some cause; killer = Some killer; out = Some (old.turn + 1) }

-- it collides with no snake and is unchanged
pub record IsSpared (old : Board) (seat : ℕ) (now : Snake) : Type 0 where
  pub escapes : (cause : Cause) → EscapesBy old.snakes seat cause
  pub rest : now ≡ snake_at old.snakes seat

abbrev pub IsJudged : Board → ℕ → Snake → Type 0
IsJudged old seat now = IsSpared old seat now ⊎ ((cause : Cause) × ((killer : ℕ) × IsPutOut old seat cause killer now))

-- the board after the collisions: each seat is judged, and nothing else changes
pub record IsCollided (old now : Board) : Type 0 where
  pub only : now ≡ record old { snakes = now.snakes }
  pub seats : length now.snakes ≡ length old.snakes
  pub judged : EachSeat (IsJudged old) now.snakes

-- The board after the collisions as a function of the board before them.

abbrev pub is_on_later_part : Snake → Snake → Bool
is_on_later_part s t = list_any (is_same_cell (head_of s.body)) (drop 1 t.body)

abbrev pub meets_head : Snake → Snake → Bool
meets_head s t = is_same_cell (head_of s.body) (head_of t.body) && nat_le (length s.body) (length t.body)

abbrev pub runs_into : Cause → ℕ → Snake → ℕ → Snake → Bool
runs_into OutOfHealth i s j t = false
runs_into WallCollision i s j t = false
runs_into SelfCollision i s j t = nat_eq i j && is_on_later_part s t
runs_into BodyCollision i s j t = not (nat_eq i j) && is_on_later_part s t
runs_into HeadCollision i s j t = not (nat_eq i j) && meets_head s t
runs_into Hazard i s j t = false

unfoldable pub collides : List Snake → ℕ → Cause → ℕ → Bool
collides snakes seat cause other =
    is_living (snake_at snakes seat) && is_living (snake_at snakes other)
    && runs_into cause seat (snake_at snakes seat) other (snake_at snakes other)

-- the earlier one, unless the other is longer
abbrev pub longer_of : List Snake → Option ℕ → ℕ → Option ℕ
longer_of snakes None other = Some other
longer_of snakes (Some killer) other = if nat_lt (length_at snakes killer) (length_at snakes other) then Some other else Some killer

-- the longest candidate among the first n seats
unfoldable pub killer_among : ℕ → List Snake → ℕ → Cause → Option ℕ
killer_among n snakes seat cause = fold (longer_of snakes) None (filter (collides snakes seat cause) (range_with_len 0 n))

abbrev pub killer_of : List Snake → ℕ → Cause → Option ℕ
killer_of snakes seat cause = killer_among (length snakes) snakes seat cause

-- the first of the causes for which there is a killer
abbrev pub collision_cause : List Snake → ℕ → Option Cause
collision_cause snakes seat = find (λ cause. is_some (killer_of snakes seat cause)) (SelfCollision ∷ BodyCollision ∷ HeadCollision ∷ [])

unfoldable pub collision_verdict : List Snake → ℕ → Option Verdict
collision_verdict snakes seat = option_map (λ cause. record { cause = cause; killer = killer_of snakes seat cause }) (collision_cause snakes seat)

-- each snake changed by its seat
abbrev pub map_seats : (ℕ → Snake → Snake) → List Snake → List Snake
map_seats f snakes = map (λ entry. f entry.0 entry.1) (enumerate_from 0 snakes)

abbrev pub collided : Board → Board
collided b = record b { snakes = map_seats (λ seat s. judged (b.turn + 1) (collision_verdict b.snakes seat) s) b.snakes }

-- the relation holds of the function's result, and of no other board
abbrev pub CollisionLaw : Type 0
CollisionLaw = (old now : Board) → (IsCollided old now → now ≡ collided old) × (now ≡ collided old → IsCollided old now)
