-- A step that changes the seats one by one.
use Rattle.std.proofs.Common.{◌≡◌, ℕ, ◌+◌, ◌<◌, ◌≤◌, List, length, refl, sym, ap, arith}
use Rattle.bs_board.specs.declared.boards.board.Board.{Board}
use Rattle.bs_board.specs.declared.boards.snake.Snake.{Snake}
use Rattle.bs_rules.specs.Collision.{map_seats, snake_at}
use Rattle.bs_batch.specs.declared.layout.Head.{Head}
use Rattle.bs_batch.specs.Shown.{HasRoom, ShowsSeats}
use Rattle.bs_batch.specs.Eliminations.{with_snake}
use Rattle.bs_batch.proofs.SoFar.{all_so_far, board_so_far, length_so_far, more_so_far}

-- after i seats, each changed by f
pub record StoodSoFar (f : ℕ → Snake → Snake) (i : ℕ) (head : Head) (plane bodies : List ℕ) (b : Board) : Type 0 where
  pub shows : ShowsSeats head plane bodies (board_so_far f i b)
  pub room : HasRoom 0 (board_so_far f i b)

-- the change is that of the board at the start
abbrev pub ChangesSoFar : (Board → ℕ → Snake → Snake) → ℕ → List ℕ → Head → List ℕ → Head → List ℕ → Type 0
ChangesSoFar change i bodies head plane head' plane' =
    (b : Board) → ShowsSeats head plane bodies b → HasRoom 0 b → StoodSoFar (change b) i head' plane' bodies b

module _ (f : ℕ → Snake → Snake) (i : ℕ) (b : Board) (within : i < length b.snakes) where
  abbrev now : Board
  now = board_so_far f i b

  next_board : with_snake now i (f i (snake_at now.snakes i)) ≡ board_so_far f (i + 1) b
  next_board = ap (λ snakes. record b { snakes = snakes }) (more_so_far f i b.snakes (f i (snake_at now.snakes i)) within refl)

  inside : i < length now.snakes
  inside = let n = length_so_far f i b.snakes (omega arith) in omega arith

  pub one_changed : (bodies : List ℕ) (head : Head) (plane : List ℕ) (head' : Head) (plane' : List ℕ) → StoodSoFar f i head plane bodies b
      → (ShowsSeats head plane bodies now → HasRoom 0 now → i < length now.snakes → ShowsSeats head' plane' bodies (with_snake now i (f i (snake_at now.snakes i))))
      → (HasRoom 0 now → i < length now.snakes → HasRoom 0 (with_snake now i (f i (snake_at now.snakes i))))
      → StoodSoFar f (i + 1) head' plane' bodies b
  one_changed bodies head plane head' plane' stood step keeps = record {
    shows = let P : Board → Type 0 = λ c. ShowsSeats head' plane' bodies c in rw next_board at (step stood.shows stood.room inside);
    room = let P : Board → Type 0 = λ c. HasRoom 0 c in rw next_board at (keeps stood.room inside);
  }

pub all_changed : (f : ℕ → Snake → Snake) (i : ℕ) (bodies : List ℕ) (head : Head) (plane : List ℕ) (b : Board) → length b.snakes ≤ i → StoodSoFar f i head plane bodies b
    → ShowsSeats head plane bodies (record b { snakes = map_seats f b.snakes })
all_changed f i bodies head plane b past stood = rw (sym (all_so_far f i b.snakes past)) stood.shows
