-- The seats that are moved and fed one by one.
use Rattle.std.proofs.Common.{◌≡◌, ℕ, ◌+◌, ◌*◌, ◌<◌, ◌≤◌, Bool, true, false, ◌||◌, List, length, refl, sym, ap, ◌∙◌, arith, inl, inr}
use Rattle.std.specs.Prelude.{slice_index_or}
use Rattle.std.proofs.lemmas.Bool.{cases_eq}
use Rattle.bs_board.specs.declared.boards.board.Board.{Board}
use Rattle.bs_board.specs.declared.boards.snake.Snake.{Snake}
use Rattle.bs_board.specs.boards.Over.{is_living}
use Rattle.bs_board.specs.boards.Wrap.{wrap_of}
use Rattle.bs_rules.specs.Collision.{snake_at}
use Rattle.bs_rules.specs.Feeding.{eats}
use Rattle.bs_rules.specs.Motion.{moved}
use Rattle.bs_batch.specs.declared.layout.Head.{Head}
use Rattle.bs_batch.specs.Directions.{given_by}
use Rattle.bs_batch.specs.Shown.{HasRoom, ShowsSeats}
use Rattle.bs_batch.specs.Eliminations.{with_snake}
use Rattle.bs_batch.specs.inner.Seats.{AreMoved, CanMoveAt, IsMovedAt, MovesAt, moved_by_seat, stepped}
use Rattle.bs_batch.proofs.MovedAt.{less_room}
use Rattle.bs_batch.proofs.SoFar.{all_so_far, board_so_far, length_so_far, more_so_far, next_so_far}

abbrev pub step_of : List ℕ → Board → ℕ → Snake → Snake
step_of moves b seat s = stepped b (slice_index_or moves seat 4) s

-- the snake of that seat is not on food after its motion
abbrev pub Hungers : List ℕ → Board → ℕ → Type 0
Hungers moves b seat = eats b.food (moved (wrap_of b) (given_by (slice_index_or moves seat 4)) (snake_at b.snakes seat)) ≡ false

-- after i seats
pub record StoodMoved (moves : List ℕ) (i : ℕ) (b : Board) (head : Head) (bodies0 bodies plane : List ℕ) (any : Bool) : Type 0 where
  pub shows : ShowsSeats head plane bodies (board_so_far (step_of moves b) i b)
  pub room : (more : ℕ) → HasRoom (more + 2 * i) b → HasRoom more (board_so_far (step_of moves b) i b)
  pub long : length bodies ≡ length bodies0
  pub none : any ≡ false → (seat : ℕ) → seat < i → seat < length b.snakes → Hungers moves b seat

abbrev pub MovedSoFar : List ℕ → ℕ → Head → List ℕ → List ℕ → Head → List ℕ → List ℕ → Bool → Type 0
MovedSoFar moves i head bodies plane head' bodies' plane' any =
    (b : Board) → ShowsSeats head plane bodies b → HasRoom 16 b → ((seat : ℕ) → CanMoveAt bodies b seat) → StoodMoved moves i b head' bodies bodies' plane' any

pub none_moved : (moves : List ℕ) (head : Head) (bodies plane : List ℕ) → MovedSoFar moves 0 head bodies plane head bodies plane false
none_moved moves head bodies plane b shows room can = record {
  shows = shows;
  room = λ more room. less_room b (more + 2 * 0) more (omega arith) room;
  long = refl;
  none = λ _ seat before _. absurd (omega arith);
}

neither : (a b : Bool) → (a || b) ≡ false → (a ≡ false) × (b ≡ false)
neither true b e = absurd cc
neither false b e = (refl, e)

module _ (moves : List ℕ) (i : ℕ) (b : Board) (within : i < length b.snakes) (few : i < 8) where
  abbrev now : Board
  now = board_so_far (step_of moves b) i b

  inside : i < length now.snakes
  inside = let n = length_so_far (step_of moves b) i b.snakes (omega arith) in omega arith

  same : snake_at now.snakes i ≡ snake_at b.snakes i
  same = next_so_far (step_of moves b) i b.snakes within

  next_board : with_snake now i (step_of moves b i (snake_at now.snakes i)) ≡ board_so_far (step_of moves b) (i + 1) b
  next_board = ap (λ snakes. record b { snakes = snakes }) (more_so_far (step_of moves b) i b.snakes (step_of moves b i (snake_at now.snakes i)) within refl)

  can_now : (bodies0 bodies : List ℕ) → length bodies ≡ length bodies0 → CanMoveAt bodies0 b i → CanMoveAt bodies now i
  can_now bodies0 bodies long can = record {
    wide = can.wide;
    high = can.high;
    low = can.low;
    small = let small = can.small in omega arith;
    snake = λ alive.
        let P : Snake → Type 0 = λ s. is_living s ≡ true in
        let ready = can.snake (rw same at alive) in
        let short = ready.short in
        rw same (record { on = ready.on; short = rw long short });
  }

  pub one_moved : (head : Head) (bodies0 bodies plane : List ℕ) (head' : Head) (bodies' plane' : List ℕ) (given : ℕ) (any ate : Bool) → given ≡ slice_index_or moves i 4
      → HasRoom 16 b → CanMoveAt bodies0 b i → StoodMoved moves i b head bodies0 bodies plane any → MovesAt i given head bodies plane head' bodies' plane' ate
      → StoodMoved moves (i + 1) b head' bodies0 bodies' plane' (any || ate)
  one_moved head bodies0 bodies plane head' bodies' plane' given any ate is room can stood step =
      let moved_now : IsMovedAt i (slice_index_or moves i 4) now head' bodies bodies' plane' ate =
      rw (← is) (step now stood.shows (stood.room 2 (less_room b 16 (2 + 2 * i) (omega arith) room)) (can_now bodies0 bodies stood.long can) inside) in
      record {
        shows = let P : Board → Type 0 = λ c. ShowsSeats head' plane' bodies' c in rw next_board at moved_now.shows;
        room = λ more room.
            let P : Board → Type 0 = λ c. HasRoom more c in
            rw next_board at (moved_now.room more (stood.room (more + 2) (less_room b (more + 2 * (i + 1)) (more + 2 + 2 * i) (omega arith) room)));
        long = moved_now.long ∙ stood.long;
        none = λ e seat before l.
            let both = neither any ate e in
            elim (cases_eq seat i) [
              | inl at_i ↦
                  let P : Snake → Type 0 = λ s. eats b.food (moved (wrap_of b) (given_by (slice_index_or moves i 4)) s) ≡ false in
                  let now_none = sym moved_now.eaten ∙ both.1 in
                  rw at_i (rw same at now_none)
              | inr other ↦ stood.none both.0 seat (omega arith) l
            ];
      }

pub all_moved : (moves : List ℕ) (i : ℕ) (b : Board) (head : Head) (bodies0 bodies plane : List ℕ) (any : Bool) → i ≡ length b.snakes → i ≤ 8
    → StoodMoved moves i b head bodies0 bodies plane any → AreMoved moves b head bodies0 bodies plane any
all_moved moves i b head bodies0 bodies plane any end few stood =
    let all : board_so_far (step_of moves b) i b ≡ moved_by_seat moves b =
    ap (λ snakes. record b { snakes = snakes }) (all_so_far (step_of moves b) i b.snakes (omega arith)) in
    record {
      shows = let P : Board → Type 0 = λ c. ShowsSeats head plane bodies c in rw all at stood.shows;
      room = λ more room. let P : Board → Type 0 = λ c. HasRoom more c in rw all at (stood.room more (less_room b (more + 16) (more + 2 * i) (omega arith) room));
      long = stood.long;
      none = λ e seat within. stood.none e seat (omega arith) within;
    }
