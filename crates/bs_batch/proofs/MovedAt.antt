-- A seat of a game whose snake is moved and fed.
use Rattle.std.proofs.Common.{◌≡◌, ℕ, ◌+◌, ◌*◌, ◌/◌, ◌<◌, ◌≤◌, Bool, true, false, cond, List, length, set, Option, Some, None, All, refl, sym, ap, ◌∙◌, arith}
use Rattle.std.specs.Prelude.{◌==◌}
use Rattle.bs_board.specs.declared.boards.point.Point.{Point}
use Rattle.bs_board.specs.declared.boards.board.Board.{Board}
use Rattle.bs_board.specs.declared.boards.board.Mode.{Mode}
use Rattle.bs_board.specs.declared.boards.board.Mode.TheVariants.{Standard, Solo, Constrictor, Wrapped}
use Rattle.bs_board.specs.declared.boards.snake.Snake.{Snake}
use Rattle.bs_board.specs.boards.Cell.{is_on_board}
use Rattle.bs_board.specs.boards.Wrap.{is_wrapped, wrap_of}
use Rattle.bs_board.specs.records.Record.{mode_byte}
use Rattle.bs_rules.specs.Collision.{snake_at}
use Rattle.bs_rules.specs.Feeding.{eats, fed_snake}
use Rattle.bs_rules.specs.Motion.{moved}
use Rattle.bs_batch.specs.declared.layout.Head.{Head}
use Rattle.bs_batch.specs.declared.layout.Seat.{Seat}
use Rattle.bs_batch.specs.Directions.{given_by}
use Rattle.bs_batch.specs.Numbers.{HasSides, IsOn, sides_of}
use borrow.Rule.Slice.PartMut.{mid_of, put_mid}
use Rattle.bs_batch.specs.Shown.{HasRoom, ShowsSeats, parts_on, seat_at}
use Rattle.bs_batch.specs.inner.Seats.{CanMoveAt, FeedsSeat, IsMovedAt, MovesSeat, ShowsSeat, stepped}
use Rattle.bs_batch.proofs.FirstOut.{same_snake, seat_is_out, seat_lives}
use Rattle.bs_batch.proofs.MovedSeat.{moved_has_room, moved_parts}
use Rattle.bs_batch.proofs.Repeated.{fed_parts}
use Rattle.bs_batch.proofs.OneSeat.{has_spare, length_taken, length_with, others_of, own_of_all, room_after, shown_alone, shown_with}

same_wrap : (mode : Mode) (m w h w' h' : ℕ) → m ≡ mode_byte mode → w ≡ w' → h ≡ h'
    → cond {A = Option (ℕ × ℕ)} (m == 3) (Some (w, h)) None ≡ cond {A = Option (ℕ × ℕ)} (is_wrapped mode) (Some (w', h')) None
same_wrap Standard m w h w' h' e f g = rw e refl
same_wrap Solo m w h w' h' e f g = rw e refl
same_wrap Constrictor m w h w' h' e f g = rw e refl
same_wrap Wrapped m w h w' h' e f g = rw (e, f, g) refl

pub less_room : (b : Board) (more fewer : ℕ) → fewer ≤ more → HasRoom more b → HasRoom fewer b
less_room b more fewer low room = record {
  narrow = room.narrow;
  early = room.early;
  bodies = room.bodies;
  few = λ p. let few = room.few p in omega arith;
}

pub dead_stays_at : (seat given : ℕ) (head : Head) (plane bodies : List ℕ) (b : Board) → ShowsSeats head plane bodies b → seat < length b.snakes
    → ((seat_at head.seats seat).cause ≡ 0 → ⊥) → IsMovedAt seat given b head bodies bodies plane false
dead_stays_at seat given head plane bodies b shows within other =
    let s = snake_at b.snakes seat in
    let dead = seat_is_out head plane bodies b seat shows within other in
    let still : moved (wrap_of b) (given_by given) s ≡ s = rw dead refl in
    let hungry : eats b.food s ≡ false = rw dead refl in
    let same : stepped b given s ≡ s = ap (fed_snake b.food) still ∙ rw hungry refl in
    record {
      shows = rw same (same_snake b seat (ShowsSeats head plane bodies) shows);
      room = λ more room. rw same (same_snake b seat (HasRoom more) (less_room b (more + 2) more (omega arith) room));
      long = refl;
      eaten = sym (ap (eats b.food) still ∙ hungry);
    }

at_sides : (w h w' h' : ℕ) (others : Point → ℕ) (food : List Point) (seat : Seat) (room plane : List ℕ) (s : Snake) → w ≡ w' → h ≡ h'
    → ShowsSeat w' h' others food seat room plane s → ShowsSeat w h others food seat room plane s
at_sides w h w' h' others food seat room plane s e f shows = rw (e, f) shows

on_sides : (w h w' h' : ℕ) (parts : List Point) → w ≡ w' → h ≡ h' → All (λ p. is_on_board w' h' p ≡ true) parts → All (λ p. is_on_board w h p ≡ true) parts
on_sides w h w' h' parts e f on = rw (e, f) on

module _ (seat given : ℕ) (head : Head) (plane bodies : List ℕ) (b : Board) (fits : seat < 8) (shows : ShowsSeats head plane bodies b) (room : HasRoom 2 b)
    (can : CanMoveAt bodies b seat) (within : seat < length b.snakes) where
  abbrev s : Snake
  s = snake_at b.snakes seat

  abbrev others : Point → ℕ
  others = others_of seat head plane bodies b fits shows within

  sides : HasSides head.settings
  sides =
      let w = shows.settings.width in
      let h = shows.settings.height in
      let wide = can.wide in
      let high = can.high in
      let low = can.low in
      let narrow = room.narrow in
      record { wide = omega arith; narrow = omega arith; high = omega arith; low = omega arith }

  same_sides : sides_of head.settings ≡ wrap_of b
  same_sides =
      same_wrap b.mode head.settings.mode head.settings.width head.settings.height b.width b.height shows.settings.mode shows.settings.width shows.settings.height

  -- what the steps on the seat make of the game
  pub moves_at : (k next : ℕ) (seat1 seat2 : Seat) (room1 room2 plane1 plane2 : List ℕ) (ate : Bool) → k ≡ length bodies / 8 → (seat_at head.seats seat).cause ≡ 0
      → MovesSeat head.settings given (seat_at head.seats seat) (mid_of (seat * (length bodies / 8)) k bodies) plane seat1 room1 plane1 next
      → length room1 ≡ length (mid_of (seat * (length bodies / 8)) k bodies) → FeedsSeat seat1 room1 plane1 next seat2 room2 plane2 ate
      → length room2 ≡ length room1
      → IsMovedAt seat given b (record head { seats = set head.seats seat seat2 }) bodies (put_mid (seat * (length bodies / 8)) k bodies room2) plane2 ate
  moves_at k next seat1 seat2 room1 room2 plane1 plane2 ate row zero moves kept1 feeds kept2 =
      let w = shows.settings.width in
      let h = shows.settings.height in
      let alive = seat_lives head plane bodies b seat shows within zero in
      let ready = can.snake alive in
      let short = ready.short in
      let before = mid_of (seat * (length bodies / 8)) k bodies in
      let long2 : length room2 ≡ length bodies / 8 = kept2 ∙ kept1 ∙ length_taken seat head plane bodies b fits shows within k row in
      let here = at_sides head.settings.width head.settings.height b.width b.height others b.food (seat_at head.seats seat) before plane s w h
      (shown_alone seat head plane bodies b fits shows within k row 2 room alive) in
      let spare = has_spare seat head plane bodies b fits shows within k row 1 (less_room b 2 1 (omega arith) room) (omega arith) can.small in
      let low : (p : Point) → others p + parts_on p s + 2 < 128 =
      λ p. let own = own_of_all seat head plane bodies b fits shows within p in let few = room.few p in omega arith in
      let on : All (IsOn head.settings) s.body = on_sides head.settings.width head.settings.height b.width b.height s.body w h ready.on in
      let one = moves others b.food s sides here spare on in
      let spare1 = moved_has_room head.settings given others b.food (seat_at head.seats seat) before plane s sides here spare on room1 kept1 low in
      let two = feeds head.settings.width head.settings.height others b.food (moved (sides_of head.settings) (given_by given) s) one.0 spare1 one.1 in
      let t = fed_snake b.food (moved (sides_of head.settings) (given_by given) s) in
      let is : t ≡ stepped b given s = ap (λ wrap. fed_snake b.food (moved wrap (given_by given) s)) same_sides in
      let end = at_sides b.width b.height head.settings.width head.settings.height others b.food seat2 room2 plane2 t (sym w) (sym h) two.0 in
      let all = shown_with seat head plane bodies b fits shows within k row seat2 room2 plane2 t long2 end in
      let more_parts : (p : Point) → parts_on p t ≤ parts_on p s + 2 = λ p.
      let a = fed_parts b.food (moved (sides_of head.settings) (given_by given) s) p in
      let c = moved_parts head.settings given others b.food (seat_at head.seats seat) before plane s sides here spare on p in
      omega arith in
      record {
        shows = rw (← is) all;
        room = λ more room. rw (← is) (room_after seat head plane bodies b fits shows within t more 2 end.body more_parts room);
        long = length_with seat head plane bodies b fits shows within k row seat2 room2 plane2 t long2;
        eaten = two.1 ∙ ap (λ wrap. eats b.food (moved wrap (given_by given) s)) same_sides;
      }
