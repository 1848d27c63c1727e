-- A snake that is eliminated: its seat is written, and its parts leave the plane.
use Rattle.std.proofs.Common.{◌≡◌, ℕ, ◌+◌, ◌%◌, ◌<◌, true, List, length, set, take, Some, refl, sym, ◌∙◌, arith, count_by, length-set}
use Rattle.std.proofs.lemmas.List.Elements.{All-set}
use Rattle.bs_board.specs.declared.boards.point.Point.{Point}
use Rattle.bs_board.specs.declared.boards.board.Board.{Board}
use Rattle.bs_board.specs.declared.boards.snake.Snake.{Snake}
use Rattle.bs_board.specs.boards.Cell.{is_same_cell}
use Rattle.bs_board.specs.boards.Over.{is_living}
use Rattle.bs_rules.specs.declared.verdict.Verdict.{Verdict}
use Rattle.bs_rules.specs.Collision.{snake_at}
use Rattle.bs_rules.specs.Elimination.{judged}
use Rattle.bs_batch.specs.declared.collisions.Verdict.{Verdict as VerdictBytes}
use Rattle.bs_batch.specs.declared.layout.Head.{Head}
use Rattle.bs_batch.specs.declared.layout.Seat.{Seat}
use Rattle.bs_batch.specs.Counts.{CountsNone}
use Rattle.bs_batch.specs.Numbers.{numbers_of}
use Rattle.bs_batch.specs.Shown.{HasBody, HasRoom, ShowsSeats, ShowsSettings, ShowsSnake, byte_of, occupants, parts_on, room_of, seat_at}
use Rattle.bs_batch.specs.Eliminations.{IsVerdict, put_out}
use Rattle.bs_batch.proofs.Alone.{living_parts}
use Rattle.bs_batch.proofs.Bytes.{same_bytes}
use Rattle.bs_batch.proofs.SeatWrites.{food_at_most, occupants_with, one_seat}
use Rattle.bs_batch.proofs.Shown.{body_shown, has_body}

module _ (b : Board) (seat : ℕ) (v : Verdict) (within : seat < length b.snakes) where
  abbrev old : Snake
  old = snake_at b.snakes seat

  abbrev out : Snake
  out = judged (b.turn + 1) (Some v) old

  -- the parts are those before, less the snake's own
  fewer : is_living old ≡ true → (p : Point) → occupants (set b.snakes seat out) p + count_by (is_same_cell p) old.body ≡ occupants b.snakes p
  fewer alive p =
      let change = occupants_with b.snakes seat out p within in
      let own = living_parts p old alive in
      let none : parts_on p out ≡ 0 = refl in
      omega arith

  pub put_out_has_room : (more : ℕ) → is_living old ≡ true → HasRoom more b → HasRoom more (put_out b seat v)
  put_out_has_room more alive room =
      let body = has_body b seat more room within in
      record {
        narrow = room.narrow;
        early = room.early;
        bodies = All-set (HasBody b.width b.height) b.snakes seat out (record { long = body.long; near = body.near }) room.bodies;
        few = λ p. let less = fewer alive p in let few = room.few p in omega arith;
      }

  pub settings_put_out : (head : Head) → ShowsSettings head.settings b → ShowsSettings head.settings (put_out b seat v)
  settings_put_out head shows = record {
    mode = shows.mode;
    width = shows.width;
    height = shows.height;
    seats = shows.seats ∙ sym (length-set b.snakes seat out);
    min_food = shows.min_food;
    chance = shows.chance;
  }

  -- the seat as it is written
  abbrev written : Head → VerdictBytes → Seat
  written head bytes = record (seat_at head.seats seat) { out = (head.turn + 1) % 65536; cause = bytes.cause; killer = bytes.killer }

  shows_written : (head : Head) (bodies : List ℕ) (bytes : VerdictBytes) → b.turn < 10000 → head.turn ≡ b.turn → IsVerdict bytes v
      → ShowsSnake (seat_at head.seats seat) (room_of bodies seat) old → ShowsSnake (written head bytes) (room_of bodies seat) out
  shows_written head bodies bytes early turn is shows = record {
    parts = shows.parts;
    body = shows.body;
    health = shows.health;
    cause = is.cause;
    killer = is.killer;
    out = omega arith;
  }

  pub eliminated : (head : Head) (plane new bodies body : List ℕ) (bytes : VerdictBytes) → seat < 8 → IsVerdict bytes v → ShowsSeats head plane bodies b → HasRoom 0 b
      → is_living old ≡ true → body ≡ take (seat_at head.seats seat).parts (room_of bodies seat) → CountsNone body plane new
      → ShowsSeats (record head { seats = set head.seats seat (written head bytes) }) new bodies (put_out b seat v)
  eliminated head plane new bodies body bytes fits is shows room alive of gone =
      let eight = shows.eight in
      let near = (has_body b seat 0 room within).near in
      let numbers : body ≡ numbers_of old.body = of ∙ body_shown head.seats bodies b.snakes seat shows.snakes within in
      let byte = byte_of b.food (set b.snakes seat out) in
      let same : (p : Point) → byte_of b.food b.snakes p ≡ byte p + count_by (is_same_cell p) old.body = λ p. let less = fewer alive p in omega arith in
      let few : (p : Point) → byte p + count_by (is_same_cell p) old.body < 256 =
      λ p. let same_p = same p in let food = food_at_most b.food p in let low = room.few p in omega arith in
      record {
        settings = settings_put_out head shows.settings;
        turn = shows.turn;
        eight = length-set head.seats seat (written head bytes) ∙ eight;
        snakes = one_seat head.seats bodies b.snakes seat (written head bytes) out (omega arith) within shows.snakes
            (shows_written head bodies bytes room.early shows.turn is (shows.snakes seat within));
        counts = gone b.width b.height byte old.body near numbers few
            (same_bytes b.width b.height (byte_of b.food b.snakes) (λ p. byte p + count_by (is_same_cell p) old.body) plane (λ p _. same p) shows.counts);
      }
