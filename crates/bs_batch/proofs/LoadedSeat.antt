-- One snake that is loaded into its seat and its room.
use Rattle.std.proofs.Common.{◌≡◌, ℕ, ◌+◌, ◌*◌, ◌/◌, ◌<◌, ◌≤◌, Bool, true, false, cond, List, length, take, set, count_by, refl, sym, ap, ◌∙◌, arith, length-set}
use Rattle.std.specs.Prelude.{unwrap_or}
use Rattle.std.proofs.lemmas.List.{get_or-set_same, get_or-set_other}
use Rattle.bs_board.specs.declared.boards.point.Point.{Point}
use Rattle.bs_board.specs.declared.boards.snake.Snake.{Snake}
use Rattle.bs_board.specs.boards.Cell.{is_same_cell}
use Rattle.bs_board.specs.boards.Over.{is_living}
use Rattle.bs_board.specs.records.Record.{cause_byte}
use borrow.Rule.Slice.PartMut.{mid_of, put_mid}
use Rattle.bs_batch.specs.declared.layout.Head.{Head}
use Rattle.bs_batch.specs.declared.layout.Seat.{Seat}
use Rattle.bs_batch.specs.declared.loading.TheConstants.{MOST_PARTS}
use Rattle.bs_batch.specs.Counts.{HasBytes}
use Rattle.bs_batch.specs.Numbers.{numbers_of}
use Rattle.bs_batch.specs.Shown.{ShowsSnake, food_byte, no_seat, parts_on, room_of, seat_at, seat_byte}
use Rattle.bs_batch.specs.inner.Loading.{AddsParts, AreNear, BeginsWith, CanLoad, LoadsSeat, LoadsSnake, SeatLoaded, SnakeLoaded, WritesSeat}
use Rattle.bs_batch.proofs.Bytes.{same_bytes}
use Rattle.bs_batch.proofs.Rooms.{length_room, length_written, mid_is, other_room, own_room, put_is, written}

-- the seat and the room that are written show the snake
pub shows_loaded : (s : Snake) (parts out cause killer : ℕ) (room : List ℕ) → parts ≡ length s.body → out ≡ unwrap_or s.out 0 → cause ≡ cause_byte s.cause
    → killer ≡ seat_byte s.killer → take (length s.body) room ≡ numbers_of s.body
    → ShowsSnake (record { parts = parts; out = out; health = s.health; cause = cause; killer = killer; spare = 0 }) room s
shows_loaded s parts out cause killer room long out_is cause_is killer_is body =
    record { parts = long; body = body; health = refl; cause = cause_is; killer = killer_is; out = out_is }

pub begins : (width height : ℕ) (cells body : List Point) (room : List ℕ) → cells ≡ body → AreNear width height body → BeginsWith cells room
    → take (length body) room ≡ numbers_of body
begins width height cells body room same near written = ap (λ l. take (length l) room) (sym same) ∙ written width height (rw same near) ∙ ap numbers_of same

-- a snake that is out has no parts on the plane
pub dead_loaded : (width height : ℕ) (others : Point → ℕ) (food : List Point) (s : Snake) (seat : Seat) (plane room : List ℕ) → is_living s ≡ false
    → length s.body ≤ length room → ShowsSnake seat room s → ((p : Point) → others p ≤ MOST_PARTS)
    → HasBytes width height (λ p. others p + food_byte food p) plane → SnakeLoaded width height others food s seat plane room true
dead_loaded width height others food s seat plane room dead short shows few has =
    let none : (p : Point) → parts_on p s ≡ 0 = λ p. ap (λ b. cond b (count_by (is_same_cell p) s.body) 0) dead in
    record {
      fits = (λ _. (short, λ p. let f = few p in let n = none p in omega arith), λ _. refl);
      shows = λ _. shows;
      bytes = λ _. same_bytes width height (λ p. others p + food_byte food p) (λ p. others p + parts_on p s + food_byte food p) plane
          (λ p _. let n = none p in omega arith) has;
    }

pub alive_loaded : (width height : ℕ) (others : Point → ℕ) (food : List Point) (s : Snake) (seat : Seat) (old plane room : List ℕ) (parts : ℕ) (result : Bool)
    → is_living s ≡ true → parts ≡ length s.body → length s.body ≤ length room → CanLoad width height s → ShowsSnake seat room s → ((p : Point) → others p ≤ MOST_PARTS)
    → HasBytes width height (λ p. others p + food_byte food p) old → AddsParts (take parts room) old plane result
    → SnakeLoaded width height others food s seat plane room result
alive_loaded width height others food s seat old plane room parts result alive long short can shows few has adds =
    let same : (p : Point) → parts_on p s ≡ count_by (is_same_cell p) s.body = λ p. ap (λ b. cond b (count_by (is_same_cell p) s.body) 0) alive in
    let added = adds width height others food s.body can.body (ap (λ n. take n room) long ∙ shows.body) few has in
    record {
      fits = (
        λ t. (short, λ p. let f = added.few.0 t p in let e = same p in omega arith),
        λ all. added.few.1 (λ p. let f = all.1 p in let e = same p in omega arith),
      );
      shows = λ _. shows;
      bytes = λ t. same_bytes width height (λ p. others p + count_by (is_same_cell p) s.body + food_byte food p)
          (λ p. others p + parts_on p s + food_byte food p) plane (λ p _. let e = same p in omega arith) (added.bytes t);
    }

-- the seat and its room in the game
pub seat_loaded : (seat k : ℕ) (s : Snake) (head : Head) (bodies plane : List ℕ) (new : Seat) (room plane' : List ℕ) (result : Bool) → seat < 8
    → k ≡ length bodies / 8 → length room ≡ length (mid_of (seat * (length bodies / 8)) k bodies) → LoadsSnake s plane new plane' room result
    → LoadsSeat seat s head bodies plane (record head { seats = set head.seats seat new }) (put_mid (seat * (length bodies / 8)) k bodies room) plane' result
seat_loaded seat k s head bodies plane new room plane' result eight row kept loads width height others food can small fits few has =
    let long0 : length (room_of bodies seat) ≡ length bodies / 8 = length_room bodies seat eight in
    let long : length room ≡ length bodies / 8 = kept ∙ ap length (mid_is bodies seat k row) ∙ long0 in
    let put = put_is bodies room seat eight long k row in
    let all = length_written bodies room seat eight long in
    let own = own_room bodies room seat eight long in
    let loaded = loads width height others food can (omega arith) few has in
    let here : seat_at (set head.seats seat new) seat ≡ new = get_or-set_same head.seats seat new no_seat fits in
    let writes : WritesSeat seat head bodies (record head { seats = set head.seats seat new }) (written bodies room seat eight long) = record {
      seats = λ j other. get_or-set_other head.seats seat j new no_seat other;
      rooms = λ j other. other_room bodies room seat eight long j other;
      rest = refl;
      eight = length-set head.seats seat new;
      long = all;
    } in
    let one : SeatLoaded width height others food seat s (record head { seats = set head.seats seat new }) (written bodies room seat eight long) plane' result = record {
      fits = (λ t. let both = loaded.fits.0 t in let short = both.0 in (omega arith, both.1), λ both. let short = both.0 in loaded.fits.1 (omega arith, both.1));
      shows = λ t. rw (own, here) (loaded.shows t);
      bytes = loaded.bytes;
    } in
    rw put (writes, one)
