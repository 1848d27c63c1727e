-- A game in which the snake of one seat is changed, with its room.
use Rattle.std.proofs.Common.{◌≡◌, ℕ, ◌+◌, ◌-◌, ◌*◌, ◌/◌, ◌<◌, ◌≤◌, true, List, length, set, sym, ap, ◌∙◌, arith, inl, inr, length-set}
use Rattle.std.proofs.lemmas.Bool.{cases_eq}
use Rattle.std.proofs.lemmas.List.{get_or-set_same, get_or-set_other}
use Rattle.std.proofs.lemmas.List.Elements.{All-set}
use Rattle.std.proofs.lemmas.List.Sums.{get_or-le-sum_by}
use Rattle.bs_board.specs.declared.boards.point.Point.{Point}
use Rattle.bs_board.specs.declared.boards.board.Board.{Board}
use Rattle.bs_board.specs.declared.boards.snake.Snake.{Snake}
use Rattle.bs_board.specs.boards.Over.{is_living}
use Rattle.bs_rules.specs.Collision.{nobody, snake_at}
use Rattle.bs_batch.specs.declared.layout.Head.{Head}
use Rattle.bs_batch.specs.declared.layout.Seat.{Seat}
use borrow.Rule.Slice.PartMut.{mid_of, put_mid}
use Rattle.bs_batch.specs.Shown.{HasBody, HasRoom, ShowsSeats, ShowsSettings, ShowsSnake, ShowsSnakes, byte_of, no_seat, occupants, parts_on, seat_at}
use Rattle.bs_batch.specs.Eliminations.{with_snake}
use Rattle.bs_batch.specs.inner.Seats.{SeatHasRoom, ShowsSeat, byte_with}
use Rattle.bs_batch.proofs.Bytes.{same_bytes}
use Rattle.bs_batch.proofs.Rooms.{length_room, length_written, mid_is, other_room, own_room, put_is, written}
use Rattle.bs_batch.proofs.SeatWrites.{occupants_with}
use Rattle.bs_batch.proofs.Shown.{has_body}

-- one seat and its room are written
one_seat_and_room : (seats : List Seat) (bodies room : List ℕ) (snakes : List Snake) (seat : ℕ) (new : Seat) (s : Snake) (eight : seat < 8)
    → seat < length seats → seat < length snakes → (long : length room ≡ length bodies / 8) → ShowsSnakes seats bodies snakes → ShowsSnake new room s
    → ShowsSnakes (set seats seat new) (written bodies room seat eight long) (set snakes seat s)
one_seat_and_room seats bodies room snakes seat new s eight fits within long shows here k inside =
    elim (cases_eq k seat) [
      | inl same ↦
          let own = own_room bodies room seat eight long in
          rw (same, own, get_or-set_same seats seat new no_seat fits, get_or-set_same snakes seat s nobody within) here
      | inr other ↦
          let n = length-set snakes seat s in
          let stays = other_room bodies room seat eight long k other in
          rw (stays, get_or-set_other seats seat k new no_seat other, get_or-set_other snakes seat k s nobody other) (shows k (omega arith))
    ]

module _ (seat : ℕ) (head : Head) (plane bodies : List ℕ) (b : Board) (fits : seat < 8) (shows : ShowsSeats head plane bodies b)
    (within : seat < length b.snakes) where
  abbrev pub snake : Snake
  snake = snake_at b.snakes seat

  abbrev pub others_of : Point → ℕ
  others_of p = occupants b.snakes p - parts_on p snake

  pub own_of_all : (p : Point) → parts_on p snake ≤ occupants b.snakes p
  own_of_all p = get_or-le-sum_by (parts_on p) b.snakes seat nobody within

  same_sum : (p : Point) → byte_of b.food b.snakes p ≡ byte_with others_of b.food snake p
  same_sum p = let own = own_of_all p in omega arith

  new_sum : (t : Snake) (p : Point) → byte_with others_of b.food t p ≡ byte_of b.food (set b.snakes seat t) p
  new_sum t p = let own = own_of_all p in let change = occupants_with b.snakes seat t p within in omega arith

  -- the board after the change has room for as many parts less as the snake has more
  pub room_after : (t : Snake) (more grows : ℕ) → HasBody b.width b.height t → ((p : Point) → parts_on p t ≤ parts_on p snake + grows) → HasRoom (more + grows) b
      → HasRoom more (with_snake b seat t)
  room_after t more grows body parts room = record {
    narrow = room.narrow;
    early = room.early;
    bodies = All-set (HasBody b.width b.height) b.snakes seat t body room.bodies;
    few = λ p. let few = room.few p in let change = occupants_with b.snakes seat t p within in let own = parts p in omega arith;
  }

  module _ (k : ℕ) (row : k ≡ length bodies / 8) where
    -- the room as the code takes it
    abbrev pub taken : List ℕ
    taken = mid_of (seat * (length bodies / 8)) k bodies

    pub length_taken : length taken ≡ length bodies / 8
    length_taken = ap length (mid_is bodies seat k row) ∙ length_room bodies seat fits

    pub shown_alone : (more : ℕ) → HasRoom more b → is_living snake ≡ true → ShowsSeat b.width b.height others_of b.food (seat_at head.seats seat) taken plane snake
    shown_alone more room alive =
        let mid = mid_is bodies seat k row in
        record {
          shows = rw mid (shows.snakes seat within);
          alive = alive;
          body = has_body b seat more room within;
          bytes = same_bytes b.width b.height (byte_of b.food b.snakes) (byte_with others_of b.food snake) plane (λ p _. same_sum p) shows.counts;
        }

    pub has_spare : (more : ℕ) → HasRoom more b → length snake.body + more ≤ length bodies / 8 → length bodies < 65536 → SeatHasRoom more others_of taken snake
    has_spare more room short small =
        let count = length_taken in
        record { short = omega arith; small = omega arith; few = λ p. let own = own_of_all p in let few = room.few p in omega arith }

    module _ (seat' : Seat) (room' plane' : List ℕ) (t : Snake) (long : length room' ≡ length bodies / 8) where
      -- the game after the change
      pub shown_with : ShowsSeat b.width b.height others_of b.food seat' room' plane' t
          → ShowsSeats (record head { seats = set head.seats seat seat' }) plane' (put_mid (seat * (length bodies / 8)) k bodies room') (with_snake b seat t)
      shown_with end =
          let eight = shows.eight in
          let put = put_is bodies room' seat fits long k row in
          let settings : ShowsSettings head.settings (with_snake b seat t) = record {
            mode = shows.settings.mode;
            width = shows.settings.width;
            height = shows.settings.height;
            seats = shows.settings.seats ∙ sym (length-set b.snakes seat t);
            min_food = shows.settings.min_food;
            chance = shows.settings.chance;
          } in
          let all : ShowsSeats (record head { seats = set head.seats seat seat' }) plane' (written bodies room' seat fits long) (with_snake b seat t) = record {
            settings = settings;
            turn = shows.turn;
            eight = length-set head.seats seat seat' ∙ eight;
            snakes = one_seat_and_room head.seats bodies room' b.snakes seat seat' t fits (omega arith) within long shows.snakes end.shows;
            counts = same_bytes b.width b.height (byte_with others_of b.food t) (byte_of b.food (set b.snakes seat t)) plane' (λ p _. new_sum t p) end.bytes;
          } in
          rw put all

      pub length_with : length (put_mid (seat * (length bodies / 8)) k bodies room') ≡ length bodies
      length_with = ap length (put_is bodies room' seat fits long k row) ∙ length_written bodies room' seat fits long
