-- All seats are moved and fed, and the food that was eaten is gone.
use Rattle.std.proofs.Common.{◌≡◌, ℕ, ◌+◌, ◌<◌, ◌≤◌, Bool, true, false, not, ◌&&◌, List, [], ◌∷◌, ◌++◌, length, map, get_or, All, refl, sym, ap, ◌∙◌, arith, inl, inr}
use Rattle.std.specs.Prelude.{slice_index_or}
use Rattle.std.specs.List.{enumerate_from, filter, list_any}
use Rattle.std.proofs.lemmas.Bool.{cases_Bool, cond_both, false≢true}
use Rattle.std.proofs.lemmas.List.Elements.{All-head, All-tail}
use Rattle.bs_board.specs.declared.boards.point.Point.{Point}
use Rattle.bs_board.specs.declared.boards.board.Board.{Board}
use Rattle.bs_board.specs.declared.boards.snake.Snake.{Snake}
use Rattle.bs_board.specs.boards.Cell.{head_of, is_same_cell}
use Rattle.bs_board.specs.boards.Over.{is_living}
use Rattle.bs_board.specs.boards.Wrap.{wrap_of}
use Rattle.bs_rules.specs.Collision.{map_seats, nobody, snake_at}
use Rattle.bs_rules.specs.Feeding.{eats, fed, fed_snake, food_left, has_head_on, last_of}
use Rattle.bs_rules.specs.Motion.{moved}
use Rattle.bs_rules.proofs.Seats.{at_seat, length-map_seats}
use Rattle.bs_batch.specs.declared.layout.Head.{Head}
use Rattle.bs_batch.specs.Directions.{given_by}
use Rattle.bs_batch.specs.Food.{HasFoodLeft}
use Rattle.bs_batch.specs.Shown.{HasRoom, ShowsFood, ShowsSeats}
use Rattle.bs_batch.specs.inner.Seats.{AreMoved, moved_by_seat}
use Rattle.bs_batch.specs.inner.Turns.{AreFed, moved_each}
use Rattle.bs_batch.proofs.FoodHeads.{none_any, some_any}

map_entries : (f : Snake → Snake) (g : ℕ → Snake → Snake) (n : ℕ) (snakes : List Snake)
    → map f (map (λ entry. g entry.0 entry.1) (enumerate_from n snakes)) ≡ map (λ entry. f (g entry.0 entry.1)) (enumerate_from n snakes)
map_entries f g n [] = refl
map_entries f g n (s ∷ snakes) = ap (λ l. f (g n s) ∷ l) (map_entries f g (n + 1) snakes)

-- a change of each snake after one by the seats
pub map_after_seats : (f : Snake → Snake) (g : ℕ → Snake → Snake) (snakes : List Snake) → map f (map_seats g snakes) ≡ map_seats (λ seat s. f (g seat s)) snakes
map_after_seats f g snakes = map_entries f g 0 snakes

agree_filter : (p q : Point → Bool) (cells : List Point) → ((c : Point) → p c ≡ q c) → filter p cells ≡ filter q cells
agree_filter p q [] same = refl
agree_filter p q (c ∷ cells) same =
    let rest = agree_filter p q cells same in
    rw (same c, rest) refl

all_pass : (p : Point → Bool) (cells : List Point) → All (λ c. p c ≡ true) cells → filter p cells ≡ cells
all_pass p [] pass = refl
all_pass p (c ∷ cells) pass =
    let here = All-head (λ d. p d ≡ true) c cells pass in
    let rest = all_pass p cells (All-tail (λ d. p d ≡ true) c cells pass) in
    rw here (ap (λ l. c ∷ l) rest)

-- has a head, if it lives
abbrev HasHead : Snake → Type 0
HasHead s = is_living s ≡ true → 1 ≤ length s.body

head_stays : (body tail : List Point) → 1 ≤ length body → head_of (body ++ tail) ≡ head_of body
head_stays [] tail some = absurd (omega arith)
head_stays (p ∷ rest) tail some = refl

-- a meal leaves the head where it is
head_on_fed : (food : List Point) (cell : Point) (s : Snake) → HasHead s → has_head_on cell (fed_snake food s) ≡ has_head_on cell s
head_on_fed food cell s some = elim (cases_Bool (is_living s)) [
  | inl alive ↦
      cond_both (eats food s) (record s { body = s.body ++ last_of s.body ∷ []; health = 100 }) s (λ t. has_head_on cell t ≡ has_head_on cell s)
      (λ _. ap (λ head. is_living s && is_same_cell head cell) (head_stays s.body (last_of s.body ∷ []) (some alive))) (λ _. refl)
  | inr dead ↦ let hungry : eats food s ≡ false = rw dead refl in rw hungry refl
]

any_on_fed : (food : List Point) (cell : Point) (snakes : List Snake) → All HasHead snakes
    → list_any (has_head_on cell) (map (fed_snake food) snakes) ≡ list_any (has_head_on cell) snakes
any_on_fed food cell [] some = refl
any_on_fed food cell (s ∷ snakes) some =
    let here = head_on_fed food cell s (All-head HasHead s snakes some) in
    let rest = any_on_fed food cell snakes (All-tail HasHead s snakes some) in
    rw (here, rest) refl

left_by_fed : (snakes : List Snake) (food cells : List Point) → All HasHead snakes → food_left (map (fed_snake food) snakes) cells ≡ food_left snakes cells
left_by_fed snakes food cells some =
    agree_filter (λ cell. not (list_any (has_head_on cell) (map (fed_snake food) snakes))) (λ cell. not (list_any (has_head_on cell) snakes)) cells
    (λ cell. ap not (any_on_fed food cell snakes some))

-- who does not eat has its head on no food
misses : (food : List Point) (s : Snake) (k : ℕ) (d : Point) → k < length food → eats food s ≡ false → has_head_on (get_or food k d) s ≡ false
misses food s k d within hungry = elim (cases_Bool (has_head_on (get_or food k d) s)) [
  | inr off ↦ off
  | inl on ↦ elim (cases_Bool (is_living s)) [
    | inr dead ↦ rw dead refl
    | inl alive ↦
        let same : is_same_cell (head_of s.body) (get_or food k d) ≡ true = rw alive at on in
        let there = some_any (is_same_cell (head_of s.body)) food k d within same in
        let full : eats food s ≡ true = rw (alive, there) refl in
        absurd (false≢true (sym hungry ∙ full))
  ]
]

all_left : (snakes : List Snake) (food : List Point) → ((seat : ℕ) → seat < length snakes → eats food (snake_at snakes seat) ≡ false) → food_left snakes food ≡ food
all_left snakes food hungry =
    all_pass (λ cell. not (list_any (has_head_on cell) snakes)) food
    (λ k d within. ap not (none_any (has_head_on (get_or food k d)) snakes nobody (λ seat inside. misses food (snake_at snakes seat) k d within (hungry seat inside))))

module _ (moves : List ℕ) (b : Board) where
  abbrev step_of : ℕ → Snake → Snake
  step_of seat s = moved (wrap_of b) (given_by (slice_index_or moves seat 4)) s

  abbrev ahead : List Snake
  ahead = map_seats step_of b.snakes

  moved_has_head : (seat : ℕ) (s : Snake) → HasHead (step_of seat s)
  moved_has_head seat s = elim (cases_Bool (is_living s)) [
    | inl alive ↦ rw alive (λ _. omega arith)
    | inr dead ↦ rw dead (λ alive. absurd (false≢true (sym dead ∙ alive)))
  ]

  all_have_heads : All HasHead ahead
  all_have_heads k d within =
      let n = length-map_seats step_of b.snakes in
      let here = at_seat step_of b.snakes k d (omega arith) in
      rw here (moved_has_head k (snake_at b.snakes k))

  same_snakes : map (fed_snake b.food) ahead ≡ map_seats (λ seat s. fed_snake b.food (step_of seat s)) b.snakes
  same_snakes = map_after_seats (fed_snake b.food) step_of b.snakes

  -- where a motion leaves the food
  fed_is : (food : List Point) → food ≡ food_left ahead b.food → record (moved_by_seat moves b) { food = food } ≡ fed (moved_each moves b)
  fed_is food is =
      ap (λ (snakes : List Snake). record b { food = food; snakes = snakes }) (sym same_snakes)
      ∙ ap (λ (cells : List Point). record b { food = cells; snakes = map (fed_snake b.food) ahead }) is

  left_is : food_left (moved_by_seat moves b).snakes b.food ≡ food_left ahead b.food
  left_is = ap (λ snakes. food_left snakes b.food) (sym same_snakes) ∙ left_by_fed ahead b.food b.food all_have_heads

  room_is : (more : ℕ) (food : List Point) → HasRoom more (moved_by_seat moves b) → HasRoom more (record (moved_by_seat moves b) { food = food })
  room_is more food room = record { narrow = room.narrow; early = room.early; bodies = room.bodies; few = room.few }

  pub some_eaten : (bodies bodies' : List ℕ) (head' head'' : Head) (food'' plane' plane'' : List ℕ) (any : Bool) → AreMoved moves b head' bodies bodies' plane' any
      → HasFoodLeft (moved_by_seat moves b) head'' food'' plane'' bodies' → AreFed moves b head'' food'' plane'' bodies'
  some_eaten bodies bodies' head' head'' food'' plane' plane'' any are left =
      let F = food_left (moved_by_seat moves b).snakes b.food in
      let is = fed_is F left_is in
      record {
        shows = record {
          seats = let P : Board → Type 0 = λ c. ShowsSeats head'' plane'' bodies' c in rw is at left.seats;
          food = let P : List Point → Type 0 = λ cells. ShowsFood head''.foods food'' cells in rw left_is at left.list;
        };
        room = λ more room. let P : Board → Type 0 = λ c. HasRoom more c in rw is at (room_is more F (are.room more room));
      }

  pub none_eaten : (bodies bodies' food : List ℕ) (head' : Head) (plane' : List ℕ) (any : Bool) → any ≡ false → AreMoved moves b head' bodies bodies' plane' any
      → ShowsFood head'.foods food b.food → AreFed moves b head' food plane' bodies'
  none_eaten bodies bodies' food head' plane' any none are list =
      let stays : b.food ≡ food_left ahead b.food =
      sym (all_left ahead b.food
      (λ seat within.
      let n = length-map_seats step_of b.snakes in
      let inside : seat < length b.snakes = omega arith in
      ap (eats b.food) (at_seat step_of b.snakes seat nobody inside) ∙ are.none none seat inside)) in
      let is = fed_is b.food stays in
      record {
        shows = record {
          seats = let P : Board → Type 0 = λ c. ShowsSeats head' plane' bodies' c in rw is at are.shows;
          food = let P : List Point → Type 0 = λ cells. ShowsFood head'.foods food cells in rw stays at list;
        };
        room = λ more room. let P : Board → Type 0 = λ c. HasRoom more c in rw is at (are.room more room);
      }
