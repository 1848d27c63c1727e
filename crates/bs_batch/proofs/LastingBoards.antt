-- What a lasting board gives for its turn.
use Rattle.std.proofs.Common.{◌≡◌, ℕ, ◌+◌, ◌-◌, ◌*◌, ◌/◌, ◌<◌, ◌≤◌, Bool, true, false, not, cond, List, [], ◌∷◌, length, take, drop, get_or, All, MatchOption, Option, Some, None, count_by, refl, sym, ap, ◌∙◌, arith, inl, inr, length-take}
use Rattle.std.specs.Prelude.{slice_index_or}
use Rattle.std.specs.List.{list_all, list_any}
use Rattle.std.proofs.lemmas.Bool.{and_parts, cases_Bool, false≢true, leb-true}
use Rattle.std.proofs.lemmas.List.{take_all}
use Rattle.std.proofs.lemmas.List.Elements.{All-cons, All-head, All-tail, All-take, All-weaker}
use Rattle.std.proofs.lemmas.List.Sums.{AllPass-from_list_all, sum_by-cons, sum_by-le, sum_by_more}
use Rattle.bs_board.specs.declared.boards.point.Point.{Point}
use Rattle.bs_board.specs.declared.boards.board.Board.{Board}
use Rattle.bs_board.specs.declared.boards.snake.Snake.{Snake}
use Rattle.bs_board.specs.declared.boards.snake.Cause.{Cause}
use Rattle.bs_board.specs.declared.boards.snake.Cause.TheVariants.{OutOfHealth, WallCollision, SelfCollision, BodyCollision, HeadCollision, Hazard}
use Rattle.bs_board.specs.boards.Cell.{are_distinct_cells, head_of, is_on_board, is_same_cell, origin}
use Rattle.bs_board.specs.boards.Legal.{IsLegalLiving, IsLegalOut, IsLegalSnake, is_head_of, is_near}
use Rattle.bs_board.specs.boards.Over.{is_living}
use Rattle.bs_board.specs.boards.Wrap.{is_wrapped}
use Rattle.bs_board.specs.commands.Setup.{is_side}
use Rattle.bs_food.specs.Free.{all_cells}
use Rattle.bs_rules.specs.Collision.{nobody, snake_at}
use Rattle.bs_rules.specs.Feeding.{has_head_on}
use Rattle.bs_rules.proofs.CollisionMeaning.{seat_of_living}
use Rattle.bs_rules.proofs.CollisionTest.{same_cell}
use Rattle.bs_rules.proofs.FoodLeft.{fit_food_left}
use Rattle.bs_rules.proofs.Movable.{near_from_on_board}
use Rattle.bs_batch.specs.Food.{CanSpawn}
use Rattle.bs_batch.specs.Lasting.{CrossesLittle, IsLasting, crossings, parts_before_last}
use Rattle.bs_batch.specs.Shown.{HasBody, HasRoom, parts_on}
use Rattle.bs_batch.specs.Turn.{HasLists}
use Rattle.bs_batch.specs.inner.Seats.{CanGrowAt, CanMoveAt}
use Rattle.bs_batch.specs.inner.Turns.{moved_each}
use Rattle.bs_batch.proofs.Alone.{living_parts}
use Rattle.bs_batch.proofs.Repeated.{one_at_most}
use Rattle.bs_batch.proofs.CellCounts.{above_one, all_counted, in_all_cells, length_all_cells, term_of}
use Rattle.bs_batch.proofs.Crossings.{advanced_length}
use Rattle.bs_batch.proofs.Survivors.{left, length_left, survivors}

pub sides : (n : ℕ) → is_side n ≡ true → (3 ≤ n) × (n ≤ 25)
sides n h = let both = and_parts _ _ h in (leb-true 3 n both.0, leb-true n 25 both.1)

all_parts : (P : Point → Type 0) (body : List Point) → 1 ≤ length body → P (head_of body) → All P (drop 1 body) → All P body
all_parts P [] some head rest = absurd (omega arith)
all_parts P (p ∷ ps) some head rest = All-cons P p ps head rest

living_state : (b : Board) (seat : ℕ) (s : Snake) (cause : Option Cause) → is_living (record s { cause = cause }) ≡ true
    → MatchOption cause (IsLegalLiving b s) (IsLegalOut b seat s) → IsLegalLiving b s
living_state b seat s None alive state = state
living_state b seat s (Some c) alive state = absurd (false≢true alive)

-- all parts of a living snake are on the board
pub on_board : (b : Board) (seat : ℕ) (s : Snake) → IsLegalSnake b seat s → is_living s ≡ true → All (λ p. is_on_board b.width b.height p ≡ true) s.body
on_board b seat s l alive =
    let long = l.body.long in
    all_parts (λ p. is_on_board b.width b.height p ≡ true) s.body (omega arith) (living_state b seat s s.cause alive l.state).head l.body.inside

near_of_out : (cause : Cause) (wraps : Bool) (w h : ℕ) (p : Point) → is_head_of wraps cause w h p ≡ true → is_near w h p ≡ true
near_of_out OutOfHealth true w h p head = near_from_on_board w h p head
near_of_out OutOfHealth false w h p head = head
near_of_out WallCollision true w h p head = absurd cc
near_of_out WallCollision false w h p head = (and_parts (is_near w h p) (not (is_on_board w h p)) head).0
near_of_out SelfCollision wraps w h p head = near_from_on_board w h p head
near_of_out BodyCollision wraps w h p head = near_from_on_board w h p head
near_of_out HeadCollision wraps w h p head = near_from_on_board w h p head
near_of_out Hazard wraps w h p head = near_from_on_board w h p head

head_is_near : (b : Board) (seat : ℕ) (s : Snake) (cause : Option Cause) → MatchOption cause (IsLegalLiving b s) (IsLegalOut b seat s)
    → is_near b.width b.height (head_of s.body) ≡ true
head_is_near b seat s None state = near_from_on_board b.width b.height (head_of s.body) state.head
head_is_near b seat s (Some cause) state = near_of_out cause (is_wrapped b.mode) b.width b.height (head_of s.body) state.head

has_legal_body : (b : Board) (seat : ℕ) (s : Snake) → IsLegalSnake b seat s → HasBody b.width b.height s
has_legal_body b seat s l =
    let long = l.body.long in
    record {
      long = long;
      near = all_parts (λ p. is_near b.width b.height p ≡ true) s.body (omega arith) (head_is_near b seat s s.cause l.state)
          (All-weaker (λ p. is_on_board b.width b.height p ≡ true) (λ p. is_near b.width b.height p ≡ true)
          (λ p on. near_from_on_board b.width b.height p on) (drop 1 s.body) l.body.inside);
    }

-- a body with few crossings is short
pub short_body : (width height : ℕ) (body : List Point) → 1 ≤ length body → All (λ p. is_on_board width height p ≡ true) body → crossings width height body ≤ 1
    → length body ≤ width * height + 2
short_body width height body some on few =
    let cells = all_cells width height in
    let front = take (length body - 1) body in
    let there : All (λ p. list_any (λ q. is_same_cell q p) cells ≡ true) front =
    All-weaker (λ p. is_on_board width height p ≡ true) (λ p. list_any (λ q. is_same_cell q p) cells ≡ true) (λ p. in_all_cells width height p) front
    (All-take (λ p. is_on_board width height p ≡ true) (length body - 1) body on) in
    let counted = all_counted cells front there in
    let above = above_one (λ q. count_by (is_same_cell q) front) cells in
    let long = length_all_cells width height in
    let n = length-take (length body - 1) body in
    omega arith

-- the parts before the last one, and the last one
one_more_part : (body : List Point) (p : Point) → 1 ≤ length body → count_by (is_same_cell p) body ≤ parts_before_last p body + 1
one_more_part body p some =
    let last = get_or body (length body - 1) origin in
    let more : count_by (is_same_cell p) (take (length body - 1 + 1) body) ≡ parts_before_last p body + cond (is_same_cell p last) 1 0 =
    sum_by_more (λ r. cond {A = ℕ} (is_same_cell p r) 1 0) body (length body - 1) origin (omega arith) in
    let whole : length body - 1 + 1 ≡ length body = omega arith in
    let all : take (length body - 1 + 1) body ≡ body = ap (λ n. take n body) whole ∙ take_all (length body) body (omega arith) in
    let parts = ap (count_by (is_same_cell p)) all in
    let one = one_at_most (is_same_cell p last) in
    omega arith

pub none_elsewhere : (width height : ℕ) (p : Point) (body : List Point) → is_on_board width height p ≡ false → All (λ q. is_on_board width height q ≡ true) body
    → count_by (is_same_cell p) body ≡ 0
none_elsewhere width height p [] off on = refl
none_elsewhere width height p (q ∷ body) off on =
    let all = sum_by-cons (λ r. cond {A = ℕ} (is_same_cell p r) 1 0) q body in
    let here = All-head (λ r. is_on_board width height r ≡ true) q body on in
    let rest = none_elsewhere width height p body off (All-tail (λ r. is_on_board width height r ≡ true) q body on) in
    elim (cases_Bool (is_same_cell p q)) [
      | inl same ↦
          let e : p ≡ q = (same_cell p q).0 same in
          absurd (false≢true (sym off ∙ ap (is_on_board width height) e ∙ here))
      | inr other ↦ let zero : cond {A = ℕ} (is_same_cell p q) 1 0 ≡ 0 = rw other refl in omega arith
    ]

few_on_cell : (width height : ℕ) (p : Point) (body : List Point) → 1 ≤ length body → All (λ q. is_on_board width height q ≡ true) body → crossings width height body ≤ 1
    → count_by (is_same_cell p) body ≤ 3
few_on_cell width height p body some on few = elim (cases_Bool (is_on_board width height p)) [
  | inl here ↦
      let one = term_of (λ q. parts_before_last q body - 1) (all_cells width height) p (in_all_cells width height p here) in
      let more = one_more_part body p some in
      omega arith
  | inr off ↦ let none = none_elsewhere width height p body off on in omega arith
]

most_parts : (b : Board) (seat : ℕ) (s : Snake) (p : Point) → IsLegalSnake b seat s → CrossesLittle b.width b.height s → parts_on p s ≤ 3
most_parts b seat s p l few = elim (cases_Bool (is_living s)) [
  | inl alive ↦
      let long = l.body.long in
      let on = on_board b seat s l alive in
      let parts = living_parts p s alive in
      let most = few_on_cell b.width b.height p s.body (omega arith) on (few alive) in
      omega arith
  | inr dead ↦ let none : parts_on p s ≡ 0 = rw dead refl in omega arith
]

module _ (b : Board) (lasting : IsLasting b) (early : b.turn < 10000) where
  -- room for as many parts more as a turn can need
  pub has_room_for_turn : HasRoom 24 b
  has_room_for_turn =
      let wide = sides b.width lasting.legal.limits.width in
      let few = lasting.legal.limits.few in
      record {
        narrow = wide.1;
        early = early;
        bodies = λ k d within. has_legal_body b k (get_or b.snakes k d) (lasting.legal.snakes k d within);
        few = λ p.
            let most = sum_by-le (parts_on p) 3 b.snakes
            (λ k d within. most_parts b k (get_or b.snakes k d) p (lasting.legal.snakes k d within) (lasting.bodies k d within)) in
            let product : length b.snakes * 3 ≤ 24 = omega arith in
            omega arith;
      }

  module _ (bodies food : List ℕ) (lists : HasLists food bodies b) where
    short_in_lists : (seat : ℕ) → seat < length b.snakes → is_living (snake_at b.snakes seat) ≡ true → length (snake_at b.snakes seat).body + 1 < length bodies / 8
    short_in_lists seat within alive =
        let s = snake_at b.snakes seat in
        let l = lasting.legal.snakes seat nobody within in
        let long = l.body.long in
        let short = short_body b.width b.height s.body (omega arith) (on_board b seat s l alive) (lasting.bodies seat nobody within alive) in
        let room = lists.long in
        omega arith

    -- after the motion and a meal there is still room
    pub can_grow : (moves counts : List ℕ) (damage : ℕ) (bodies' : List ℕ) → length bodies' ≡ length bodies → (seat : ℕ) → CanGrowAt bodies' (left moves counts damage b) seat
    can_grow moves counts damage bodies' same seat = record {
      small = let small = lists.small in omega arith;
      short = λ alive.
          let n = length_left moves counts damage b in
          let inside = seat_of_living (left moves counts damage b).snakes seat alive in
          let within : seat < length b.snakes = omega arith in
          let s = snake_at b.snakes seat in
          let goes = (survivors moves counts damage b seat nobody within).goes in
          let long = (lasting.legal.snakes seat nobody within).body.long in
          let short = short_in_lists seat within (goes.before alive) in
          let more = advanced_length s.body goes.head (snake_at (left moves counts damage b).snakes seat).body (omega arith) (goes.body alive) in
          rw same (omega arith);
    }

    pub can_spawn : (moves counts : List ℕ) (damage : ℕ) (food' : List ℕ) → length food' ≡ length food → CanSpawn food' (left moves counts damage b)
    can_spawn moves counts damage food' same =
        let high = sides b.height lasting.legal.limits.height in
        record {
          low = high.1;
          room = let cells = lists.cells in omega arith;
          fits = fit_food_left (λ cell. not (list_any (has_head_on cell) (moved_each moves b).snakes)) b.width b.height b.food lasting.legal.food.fits;
        }

    pub can_move : (seat : ℕ) → CanMoveAt bodies b seat
    can_move seat =
        let wide = sides b.width lasting.legal.limits.width in
        let high = sides b.height lasting.legal.limits.height in
        record {
          wide = let w = wide.0 in omega arith;
          high = let h = high.0 in omega arith;
          low = high.1;
          small = lists.small;
          snake = λ alive.
              let within = seat_of_living b.snakes seat alive in
              let short = short_in_lists seat within alive in
              record {
                on = on_board b seat (snake_at b.snakes seat) (lasting.legal.snakes seat nobody within) alive;
                short = omega arith;
              };
        }

  pub food_on_board : (cell : ℕ) (d : Point) → cell < length b.food → is_on_board b.width b.height (slice_index_or b.food cell d) ≡ true
  food_on_board =
      AllPass-from_list_all (is_on_board b.width b.height) b.food
      (and_parts (list_all (is_on_board b.width b.height) b.food) (are_distinct_cells b.food) lasting.legal.food.fits).0
