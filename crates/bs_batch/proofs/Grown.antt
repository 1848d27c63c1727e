-- A seat whose snake grows.
use Rattle.std.proofs.Common.{◌≡◌, ℕ, ◌+◌, ◌-◌, ◌*◌, ◌/◌, ◌<◌, ◌≤◌, true, false, not, List, length, take, set, get_or, refl, sym, ap, ◌∙◌, arith, inl, inr, eqb, leb, length-take}
use Rattle.std.proofs.lemmas.Bool.{cases_Bool, le-leb}
use Rattle.std.proofs.lemmas.List.{get_or-map, get_or-take, length-map}
use Rattle.std.proofs.lemmas.List.Elements.{All-get_or}
use Rattle.bs_board.specs.declared.boards.point.Point.{Point}
use Rattle.bs_board.specs.declared.boards.board.Board.{Board}
use Rattle.bs_board.specs.declared.boards.snake.Snake.{Snake}
use Rattle.bs_board.specs.boards.Cell.{origin}
use Rattle.bs_board.specs.boards.Legal.{is_near}
use Rattle.bs_board.specs.boards.Over.{is_living}
use Rattle.bs_modes.specs.Growth.{grown_body, grown_snake, is_stretched, part_from_end}
use Rattle.bs_rules.specs.Collision.{snake_at}
use borrow.Rule.Slice.PartMut.{mid_of, put_mid}
use Rattle.bs_batch.specs.declared.layout.Head.{Head}
use Rattle.bs_batch.specs.declared.layout.Seat.{Seat}
use Rattle.bs_batch.specs.Numbers.{number_of, numbers_of}
use Rattle.bs_batch.specs.Shown.{HasBody, HasRoom, ShowsSeats, ShowsSnake, parts_on, seat_at}
use Rattle.bs_batch.specs.inner.Seats.{CanGrowAt, GrowsSeat, IsGrownAt, RepeatsLast, SeatHasRoom, ShowsSeat, repeated}
use Rattle.bs_batch.proofs.FirstOut.{same_snake, seat_is_out, seat_lives}
use Rattle.bs_batch.proofs.FoodHeads.{same_numbers}
use Rattle.bs_batch.proofs.MovedAt.{less_room}
use Rattle.bs_batch.proofs.OneSeat.{has_spare, length_taken, length_with, others_of, room_after, shown_alone, shown_with}
use Rattle.bs_batch.proofs.Repeated.{longer_parts}

-- a part of the body by its number
number_at : (room : List ℕ) (body : List Point) (i : ℕ) → i < length body → take (length body) room ≡ numbers_of body
    → get_or room i 0 ≡ number_of (get_or body i origin)
number_at room body i within listed =
    sym (get_or-take (length body) room i 0 within) ∙ ap (λ l. get_or l i 0) listed ∙ get_or-map number_of body i origin 0 within

module _ (width height : ℕ) (seat : Seat) (room : List ℕ) (s : Snake) (narrow : width ≤ 25) (has : HasBody width height s) (shows : ShowsSnake seat room s) where
  part_near : (i : ℕ) → i < length s.body → is_near width height (get_or s.body i origin) ≡ true
  part_near i within = All-get_or (λ p. is_near width height p ≡ true) s.body i origin within has.near

  pub fits_room : length s.body ≤ length room
  fits_room =
      let a = length-take (length s.body) room in
      let c : length (take (length s.body) room) ≡ length s.body = ap length shows.body ∙ length-map s.body number_of in
      omega arith

  long_enough : leb 2 (length s.body) ≡ true
  long_enough = let long = has.long in le-leb 2 (length s.body) (omega arith)

  pub stretched_is : (n : ℕ) → n ≡ seat.parts → not (eqb (get_or room (n - 1) 0) (get_or room (n - 2) 0)) ≡ is_stretched s.body
  stretched_is n is =
      let long = has.long in
      let parts : n ≡ length s.body = is ∙ shows.parts in
      let one = number_at room s.body (length s.body - 1) (omega arith) shows.body in
      let two = number_at room s.body (length s.body - 2) (omega arith) shows.body in
      let same = same_numbers width height (part_from_end 1 s.body) (part_from_end 2 s.body) narrow
      (part_near (length s.body - 1) (omega arith)) (part_near (length s.body - 2) (omega arith)) in
      rw (parts, one, two, same, long_enough) refl

-- full health, and no more parts
pub full : (width height : ℕ) (others : Point → ℕ) (food : List Point) (seat : Seat) (room plane : List ℕ) (s : Snake)
    → ShowsSeat width height others food seat room plane s → ShowsSeat width height others food (record seat { health = 100 }) room plane (record s { health = 100 })
full width height others food seat room plane s shows = record {
  shows = record {
    parts = shows.shows.parts;
    body = shows.shows.body;
    health = refl;
    cause = shows.shows.cause;
    killer = shows.shows.killer;
    out = shows.shows.out;
  };
  alive = shows.alive;
  body = record { long = shows.body.long; near = shows.body.near };
  bytes = shows.bytes;
}

grown_stays : (s : Snake) → is_living s ≡ true → is_stretched s.body ≡ false → grown_snake s ≡ record s { health = 100 }
unfolding grown_body
grown_stays s alive same = rw (alive, same) refl

grown_more : (s : Snake) → is_living s ≡ true → is_stretched s.body ≡ true → grown_snake s ≡ repeated (record s { health = 100 })
unfolding grown_body
grown_more s alive longer = rw (alive, longer) refl

grown_out : (s : Snake) → is_living s ≡ false → grown_snake s ≡ s
grown_out s dead = rw dead refl

-- at most one part more on each cell
grown_parts : (s : Snake) (p : Point) → parts_on p (grown_snake s) ≤ parts_on p s + 1
grown_parts s p = elim (cases_Bool (is_living s)) [
  | inl alive ↦ elim (cases_Bool (is_stretched s.body)) [
    | inl longer ↦ rw (grown_more s alive longer) (longer_parts s (part_from_end 1 s.body) p 100)
    | inr same ↦ rw (grown_stays s alive same) (omega arith)
  ]
  | inr dead ↦ rw (grown_out s dead) (omega arith)
]

pub stays_full : (width height : ℕ) (others : Point → ℕ) (food : List Point) (seat : Seat) (room plane : List ℕ) (s : Snake)
    → ShowsSeat width height others food seat room plane s → is_stretched s.body ≡ false
    → ShowsSeat width height others food (record seat { health = 100 }) room plane (grown_snake s)
stays_full width height others food seat room plane s shows same =
    rw (grown_stays s shows.alive same) (full width height others food seat room plane s shows)

pub grows_full : (width height : ℕ) (others : Point → ℕ) (food : List Point) (seat : Seat) (room plane : List ℕ) (s : Snake) (seat' : Seat) (room' plane' : List ℕ)
    → ShowsSeat width height others food seat room plane s → SeatHasRoom 1 others room s → is_stretched s.body ≡ true
    → RepeatsLast (record seat { health = 100 }) room plane seat' room' plane'
    → ShowsSeat width height others food seat' room' plane' (grown_snake s)
grows_full width height others food seat room plane s seat' room' plane' shows spare longer repeats =
    rw (grown_more s shows.alive longer)
    (repeats width height others food (record s { health = 100 }) (full width height others food seat room plane s shows)
    (record { short = spare.short; small = spare.small; few = spare.few }))

pub dead_grows_not : (seat : ℕ) (head : Head) (plane bodies : List ℕ) (b : Board) → ShowsSeats head plane bodies b → seat < length b.snakes
    → ((seat_at head.seats seat).cause ≡ 0 → ⊥) → IsGrownAt seat b head bodies bodies plane
dead_grows_not seat head plane bodies b shows within other =
    let s = snake_at b.snakes seat in
    let dead = seat_is_out head plane bodies b seat shows within other in
    let stays : grown_snake s ≡ s = grown_out s dead in
    record {
      shows = rw stays (same_snake b seat (ShowsSeats head plane bodies) shows);
      room = λ more room. rw stays (same_snake b seat (HasRoom more) (less_room b (more + 1) more (omega arith) room));
      long = refl;
    }

-- what the growth of the seat makes of the game
pub grows_at : (seat : ℕ) (head : Head) (plane bodies : List ℕ) (b : Board) (k : ℕ) (seat' : Seat) (room' plane' : List ℕ) → seat < 8 → ShowsSeats head plane bodies b
    → HasRoom 1 b → CanGrowAt bodies b seat → seat < length b.snakes → k ≡ length bodies / 8 → (seat_at head.seats seat).cause ≡ 0
    → GrowsSeat (seat_at head.seats seat) (mid_of (seat * (length bodies / 8)) k bodies) plane seat' room' plane'
    → length room' ≡ length (mid_of (seat * (length bodies / 8)) k bodies)
    → IsGrownAt seat b (record head { seats = set head.seats seat seat' }) bodies (put_mid (seat * (length bodies / 8)) k bodies room') plane'
grows_at seat head plane bodies b k seat' room' plane' fits shows room can within row zero grows kept =
    let s = snake_at b.snakes seat in
    let alive = seat_lives head plane bodies b seat shows within zero in
    let short = can.short alive in
    let long : length room' ≡ length bodies / 8 = kept ∙ length_taken seat head plane bodies b fits shows within k row in
    let here = shown_alone seat head plane bodies b fits shows within k row 1 room alive in
    let spare = has_spare seat head plane bodies b fits shows within k row 1 room (omega arith) can.small in
    let end = grows b.width b.height (others_of seat head plane bodies b fits shows within) b.food s here spare in
    record {
      shows = shown_with seat head plane bodies b fits shows within k row seat' room' plane' (grown_snake s) long end;
      room = λ more room. room_after seat head plane bodies b fits shows within (grown_snake s) more 1 end.body (grown_parts s) room;
      long = length_with seat head plane bodies b fits shows within k row seat' room' plane' (grown_snake s) long;
    }
