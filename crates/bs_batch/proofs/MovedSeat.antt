-- A seat whose snake moves one step.
use Rattle.std.proofs.Common.{◌≡◌, ℕ, zero, suc, ◌+◌, ◌-◌, ◌<◌, ◌≤◌, Bool, true, false, cond, List, [], ◌∷◌, ◌++◌, length, take, drop, min, All, count_by, refl, ap, ◌∙◌, arith, length-take, Option}
use Rattle.std.proofs.lemmas.List.{take_all}
use Rattle.std.proofs.lemmas.List.Elements.{All-cons, All-get_or, All-take}
use Rattle.std.proofs.lemmas.List.Sums.{sum_by-cons, sum_by_more}
use Rattle.bs_board.specs.declared.boards.point.Point.{Point}
use Rattle.bs_board.specs.declared.boards.snake.Snake.{Snake}
use Rattle.bs_board.specs.boards.Cell.{head_of, is_same_cell, origin}
use Rattle.bs_board.specs.boards.Legal.{is_near}
use Rattle.bs_rules.specs.Feeding.{last_of}
use Rattle.bs_rules.specs.Motion.{direction_taken, moved, moved_body, neighbor}
use Rattle.bs_batch.specs.declared.layout.Seat.{Seat}
use Rattle.bs_batch.specs.declared.layout.Settings.{Settings}
use Rattle.bs_batch.specs.Counts.{CountsLess, CountsMore, HasBytes, and_one}
use Rattle.bs_batch.specs.Directions.{given_by}
use Rattle.bs_batch.specs.Numbers.{HasSides, IsOn, number_of, numbers_of, sides_of}
use Rattle.bs_batch.specs.Shown.{food_byte, parts_on}
use Rattle.bs_batch.specs.Steps.{MovesBody, shifted}
use Rattle.bs_batch.specs.inner.Seats.{SeatHasRoom, ShowsSeat, byte_with}
use Rattle.bs_batch.proofs.Alone.{living_parts}
use Rattle.bs_batch.proofs.Bytes.{same_bytes}
use Rattle.bs_batch.proofs.Neighbors.{near_neighbor}
use Rattle.bs_batch.proofs.SeatWrites.{food_at_most}

-- the parts behind a body that move with it leave its own as they would be alone
lane_shifted : (h : ℕ) (room : List ℕ) (n m : ℕ) → n ≤ m → m ≤ length room
    → take n (shifted h (take m room) ++ drop m room) ≡ shifted h (take n room)
lane_shifted h room zero m few most = refl
lane_shifted h [] (suc n) m few most = absurd (omega arith)
lane_shifted h (x ∷ room) (suc n) zero few most = absurd (omega arith)
lane_shifted h (x ∷ room) (suc n) (suc m) few most = ap (λ xs. h ∷ xs) (lane_shifted x room n m (omega arith) (omega arith))

one_at_most : (b : Bool) → cond {A = ℕ} b 1 0 ≤ 1
one_at_most true = omega arith
one_at_most false = omega arith

module _ (settings : Settings) (given : ℕ) (others : Point → ℕ) (food : List Point) (seat : Seat) (room plane : List ℕ) (s : Snake)
    (sides : HasSides settings) (shows : ShowsSeat settings.width settings.height others food seat room plane s) (spare : SeatHasRoom 1 others room s)
    (on : All (IsOn settings) s.body) where
  abbrev width : ℕ
  width = settings.width

  abbrev height : ℕ
  height = settings.height

  abbrev wrap : Option (ℕ × ℕ)
  wrap = sides_of settings

  abbrev front : List Point
  front = take (length s.body - 1) s.body

  abbrev next_cell : Point
  next_cell = neighbor wrap (head_of s.body) (direction_taken wrap (given_by given) s.body)

  abbrev after : Snake
  after = record s { body = moved_body wrap (given_by given) s.body; health = s.health - 1 }

  is_after : moved wrap (given_by given) s ≡ after
  is_after = rw shows.alive refl

  near_next : is_near width height next_cell ≡ true
  near_next =
      let long = shows.body.long in
      near_neighbor settings (head_of s.body) (direction_taken wrap (given_by given) s.body) sides (All-get_or (IsOn settings) s.body 0 origin (omega arith) on)

  near_last : is_near width height (last_of s.body) ≡ true
  near_last =
      let long = shows.body.long in
      All-get_or (λ q. is_near width height q ≡ true) s.body (length s.body - 1) origin (omega arith) shows.body.near

  near_front : All (λ q. is_near width height q ≡ true) front
  near_front = All-take (λ q. is_near width height q ≡ true) (length s.body - 1) s.body shows.body.near

  length_after : length after.body ≡ length s.body
  length_after = let long = shows.body.long in let n = length-take (length s.body - 1) s.body in omega arith

  -- without its last part
  abbrev between : Point → ℕ
  between q = others q + count_by (is_same_cell q) front + food_byte food q

  without_last : (q : Point) → byte_with others food s q ≡ and_one between (last_of s.body) q
  without_last q =
      let long = shows.body.long in
      let own = living_parts q s shows.alive in
      let more : count_by (is_same_cell q) (take (length s.body - 1 + 1) s.body) ≡ count_by (is_same_cell q) front + cond (is_same_cell q (last_of s.body)) 1 0 =
      sum_by_more (λ r. cond {A = ℕ} (is_same_cell q r) 1 0) s.body (length s.body - 1) origin (omega arith) in
      let whole : length s.body - 1 + 1 ≡ length s.body = omega arith in
      let all : take (length s.body - 1 + 1) s.body ≡ s.body = ap (λ n. take n s.body) whole ∙ take_all (length s.body) s.body (omega arith) in
      let parts = ap (count_by (is_same_cell q)) all in
      omega arith

  with_next : (q : Point) → and_one between next_cell q ≡ byte_with others food after q
  with_next q =
      let own = living_parts q after shows.alive in
      let more : count_by (is_same_cell q) (next_cell ∷ front) ≡ cond (is_same_cell q next_cell) 1 0 + count_by (is_same_cell q) front =
      sum_by-cons (λ r. cond {A = ℕ} (is_same_cell q r) 1 0) next_cell front in
      omega arith

  low : (q : Point) → between q < 255
  low q =
      let few = spare.few q in
      let bit = food_at_most food q in
      let last = without_last q in
      let own = living_parts q s shows.alive in
      omega arith

  pub moves : (n m parts next lost health : ℕ) (lanes mid new : List ℕ) → parts ≡ seat.parts → n ≡ min parts (length room) → n ≤ m → m ≤ length room
      → MovesBody settings given (take n room) (shifted next (take n room)) next lost → lanes ≡ shifted next (take m room)
      → CountsLess lost plane mid → CountsMore next mid new → health ≡ seat.health - 1
      → ShowsSeat width height others food (record seat { health = health }) (lanes ++ drop m room) new (moved wrap (given_by given) s)
      × (next ≡ number_of (head_of (moved wrap (given_by given) s).body))
  moves n m parts next lost health lanes mid new are is few most motion pushed less more falls =
      let long = shows.body.long in
      let all = shows.shows.parts in
      let short = spare.short in
      let same : n ≡ length s.body = omega arith in
      let numbers : take n room ≡ numbers_of s.body = ap (λ k. take k room) same ∙ shows.shows.body in
      let moved_numbers = motion s.body sides on long numbers in
      let count : length after.body ≡ n = omega (arith, same, length_after) in
      let bytes_mid : HasBytes width height between mid =
      less width height between (last_of s.body) near_last moved_numbers.last (low (last_of s.body))
      (same_bytes width height (byte_with others food s) (and_one between (last_of s.body)) plane (λ q _. without_last q) shows.bytes) in
      let bytes_new = more width height between next_cell near_next moved_numbers.head (low next_cell) bytes_mid in
      let n_after = length_after in
      let shown : ShowsSeat width height others food (record seat { health = health }) (lanes ++ drop m room) new after = record {
        shows = record {
          parts = omega arith;
          body = ap (λ k. take k (lanes ++ drop m room)) count ∙ ap (λ xs. take n (xs ++ drop m room)) pushed ∙ lane_shifted next room n m few most
              ∙ moved_numbers.body;
          health = falls ∙ ap (λ h. h - 1) shows.shows.health;
          cause = shows.shows.cause;
          killer = shows.shows.killer;
          out = shows.shows.out;
        };
        alive = shows.alive;
        body = record { long = omega arith; near = All-cons (λ q. is_near width height q ≡ true) next_cell front near_next near_front };
        bytes = same_bytes width height (and_one between next_cell) (byte_with others food after) new (λ q _. with_next q) bytes_new;
      } in
      rw is_after (shown, moved_numbers.head)

  -- as many parts, and at most one more on each cell
  pub moved_has_room : (room' : List ℕ) → length room' ≡ length room → ((p : Point) → others p + parts_on p s + 2 < 128)
      → SeatHasRoom 1 others room' (moved wrap (given_by given) s)
  moved_has_room room' long few =
      let count = length_after in
      let short = spare.short in
      let small = spare.small in
      rw is_after
      (record {
        short = omega arith;
        small = omega arith;
        few = λ q.
            let low = few q in
            let before = without_last q in
            let now = with_next q in
            let one = one_at_most (is_same_cell q next_cell) in
            omega arith;
      })

  pub moved_parts : (q : Point) → parts_on q (moved wrap (given_by given) s) ≤ parts_on q s + 1
  moved_parts q =
      rw is_after
      (let before = without_last q in
      let now = with_next q in
      let one = one_at_most (is_same_cell q next_cell) in
      omega arith)
