-- The seats whose snakes grow one by one.
use Rattle.std.proofs.Common.{◌≡◌, ℕ, ◌+◌, ◌-◌, ◌<◌, true, List, length, refl, ap, ◌∙◌, arith}
use Rattle.bs_board.specs.declared.boards.board.Board.{Board}
use Rattle.bs_board.specs.declared.boards.snake.Snake.{Snake}
use Rattle.bs_board.specs.boards.Over.{is_living}
use Rattle.bs_modes.specs.Growth.{grown, grown_snake}
use Rattle.bs_rules.specs.Collision.{snake_at}
use Rattle.bs_batch.specs.declared.layout.Head.{Head}
use Rattle.bs_batch.specs.Shown.{HasRoom, ShowsSeats}
use Rattle.bs_batch.specs.Eliminations.{with_snake}
use Rattle.bs_batch.specs.inner.Seats.{AreGrown, CanGrowAt, GrowsAt, IsGrownAt}
use Rattle.bs_batch.proofs.MovedAt.{less_room}
use Rattle.bs_batch.proofs.SoFar.{all_so_far, board_so_far, length_so_far, map_each, more_so_far, next_so_far}

abbrev pub grow_of : ℕ → Snake → Snake
grow_of _ s = grown_snake s

-- after i seats
pub record StoodGrown (i : ℕ) (b : Board) (head : Head) (bodies0 bodies plane : List ℕ) : Type 0 where
  pub shows : ShowsSeats head plane bodies (board_so_far grow_of i b)
  pub room : (more : ℕ) → more + i ≡ 8 → HasRoom more (board_so_far grow_of i b)
  pub long : length bodies ≡ length bodies0

abbrev pub GrownSoFar : ℕ → Head → List ℕ → List ℕ → Head → List ℕ → List ℕ → Type 0
GrownSoFar i head bodies plane head' bodies' plane' =
    (b : Board) → ShowsSeats head plane bodies b → HasRoom 8 b → ((seat : ℕ) → CanGrowAt bodies b seat) → StoodGrown i b head' bodies bodies' plane'

pub none_grown : (head : Head) (bodies plane : List ℕ) → GrownSoFar 0 head bodies plane head bodies plane
none_grown head bodies plane b shows room can = record {
  shows = shows;
  room = λ more e. let all : more ≡ 8 = omega arith in rw all room;
  long = refl;
}

module _ (i : ℕ) (b : Board) (within : i < length b.snakes) (few : i < 8) where
  abbrev now : Board
  now = board_so_far grow_of i b

  inside : i < length now.snakes
  inside = let n = length_so_far grow_of i b.snakes (omega arith) in omega arith

  same : snake_at now.snakes i ≡ snake_at b.snakes i
  same = next_so_far grow_of i b.snakes within

  next_board : with_snake now i (grown_snake (snake_at now.snakes i)) ≡ board_so_far grow_of (i + 1) b
  next_board = ap (λ snakes. record b { snakes = snakes }) (more_so_far grow_of i b.snakes (grown_snake (snake_at now.snakes i)) within refl)

  can_now : (bodies0 bodies : List ℕ) → length bodies ≡ length bodies0 → CanGrowAt bodies0 b i → CanGrowAt bodies now i
  can_now bodies0 bodies long can = record {
    small = let small = can.small in omega arith;
    short = λ alive.
        let P : Snake → Type 0 = λ s. is_living s ≡ true in
        let short = can.short (rw same at alive) in
        rw (same, long) short;
  }

  pub one_grown : (head : Head) (bodies0 bodies plane : List ℕ) (head' : Head) (bodies' plane' : List ℕ) → CanGrowAt bodies0 b i → StoodGrown i b head bodies0 bodies plane
      → GrowsAt i head bodies plane head' bodies' plane' → StoodGrown (i + 1) b head' bodies0 bodies' plane'
  one_grown head bodies0 bodies plane head' bodies' plane' can stood step =
      let grown_now : IsGrownAt i now head' bodies bodies' plane' =
      step now stood.shows (less_room now (8 - i) 1 (omega arith) (stood.room (8 - i) (omega arith))) (can_now bodies0 bodies stood.long can) inside in
      record {
        shows = let P : Board → Type 0 = λ c. ShowsSeats head' plane' bodies' c in rw next_board at grown_now.shows;
        room = λ more e. let P : Board → Type 0 = λ c. HasRoom more c in rw next_board at (grown_now.room more (stood.room (more + 1) (omega arith)));
        long = grown_now.long ∙ stood.long;
      }

pub all_grown : (i : ℕ) (b : Board) (head : Head) (bodies0 bodies plane : List ℕ) → i ≡ length b.snakes → StoodGrown i b head bodies0 bodies plane
    → AreGrown b head bodies0 bodies plane
all_grown i b head bodies0 bodies plane end stood =
    let all : board_so_far grow_of i b ≡ grown b =
    ap (λ snakes. record b { snakes = snakes }) (all_so_far grow_of i b.snakes (omega arith) ∙ map_each grown_snake b.snakes) in
    record {
      shows = let P : Board → Type 0 = λ c. ShowsSeats head plane bodies c in rw all at stood.shows;
      long = stood.long;
    }
