-- A new snake on its cell.
use Rattle.std.proofs.Common.{◌≡◌, ℕ, ◌+◌, ◌*◌, ◌/◌, ◌<◌, ◌≤◌, true, cond, List, [], ◌∷◌, length, take, set, slice_index, count_by, refl, sym, ap, ◌∙◌, arith, length-set}
use Rattle.std.proofs.lemmas.List.{get_or-set_other, get_or-set_same}
use Rattle.std.proofs.lemmas.List.Sums.{sum_by-cons}
use Rattle.bs_board.specs.declared.boards.point.Point.{Point}
use Rattle.bs_board.specs.boards.Cell.{is_on_board, is_same_cell}
use Rattle.bs_board.specs.boards.Legal.{is_near}
use Rattle.bs_rules.proofs.CollisionTest.{same_cell}
use Rattle.bs_rules.proofs.Movable.{near_from_on_board}
use borrow.Rule.Slice.PartMut.{mid_of, put_mid}
use Rattle.bs_batch.specs.declared.layout.Cell.{Cell}
use Rattle.bs_batch.specs.declared.layout.Head.{Head}
use Rattle.bs_batch.specs.declared.layout.Seat.{Seat}
use Rattle.bs_batch.specs.Counts.{CountsMore, HasBytes, and_one}
use Rattle.bs_batch.specs.Numbers.{number_of}
use Rattle.bs_batch.specs.Shown.{ShowsSnake, no_seat, parts_on, room_of, seat_at}
use Rattle.bs_batch.specs.Starting.{point_of}
use Rattle.bs_batch.specs.inner.Loading.{WritesSeat}
use Rattle.bs_batch.specs.inner.Starting.{PlacesSnake, SnakePlaced, starter}
use Rattle.bs_batch.proofs.Bytes.{same_bytes}
use Rattle.bs_batch.proofs.Rooms.{length_room, length_written, mid_is, other_room, own_room, put_is, written}

pub three_written : (cell : ℕ) (room : List ℕ) → 3 ≤ length room → take 3 (set (set (set room 0 cell) 1 cell) 2 cell) ≡ cell ∷ cell ∷ cell ∷ []
three_written cell [] long = absurd (omega arith)
three_written cell (a ∷ []) long = absurd (omega arith)
three_written cell (a ∷ b ∷ []) long = absurd (omega arith)
three_written cell (a ∷ b ∷ c ∷ rest) long = refl

-- the three parts on a cell
pub starter_parts : (q p : Point) → parts_on q (starter p) ≡ cond (is_same_cell q p) 1 0 + cond (is_same_cell q p) 1 0 + cond (is_same_cell q p) 1 0
starter_parts q p =
    let f : Point → ℕ = λ r. cond (is_same_cell q r) 1 0 in
    let one : count_by (is_same_cell q) (p ∷ []) ≡ f p + 0 = sum_by-cons f p [] in
    let two : count_by (is_same_cell q) (p ∷ p ∷ []) ≡ f p + count_by (is_same_cell q) (p ∷ []) = sum_by-cons f p (p ∷ []) in
    let three : count_by (is_same_cell q) (p ∷ p ∷ p ∷ []) ≡ f p + count_by (is_same_cell q) (p ∷ p ∷ []) = sum_by-cons f p (p ∷ p ∷ []) in
    omega arith

module _ (width height : ℕ) (others : Point → ℕ) (p : Point) (near : is_near width height p ≡ true) (free : others p ≡ 0) where
  ones : (byte : Point → ℕ) → and_one byte p p ≡ byte p + 1
  ones byte = let itself : is_same_cell p p ≡ true = (same_cell p p).1 refl in ap (λ b. byte p + cond b 1 0) itself

  pub three_counted : (cell : ℕ) (plane one two three : List ℕ) → cell ≡ number_of p → CountsMore cell plane one → CountsMore cell one two → CountsMore cell two three
      → HasBytes width height others plane → HasBytes width height (λ q. others q + parts_on q (starter p)) three
  three_counted cell plane one two three is first second third has =
      let a = ones others in
      let b = ones (and_one others p) in
      let low1 : and_one others p p < 255 = omega arith in
      let low2 : and_one (and_one others p) p p < 255 = omega arith in
      let has1 = first width height others p near is (omega arith) has in
      let has2 = second width height (and_one others p) p near is low1 has1 in
      let has3 = third width height (and_one (and_one others p) p) p near is low2 has2 in
      same_bytes width height (and_one (and_one (and_one others p) p) p) (λ q. others q + parts_on q (starter p)) three
      (λ q _. let n = starter_parts q p in omega arith) has3

pub shows_starter : (p : Point) (cell : ℕ) (room : List ℕ) → cell ≡ number_of p → take 3 room ≡ cell ∷ cell ∷ cell ∷ []
    → ShowsSnake (record { parts = 3; out = 0; health = 100; cause = 0; killer = 255; spare = 0 }) room (starter p)
shows_starter p cell room is body = record {
  parts = refl;
  body = body ∙ ap (λ n. n ∷ n ∷ n ∷ []) is;
  health = refl;
  cause = refl;
  killer = refl;
  out = refl;
}

pub one_placed : (seat k number : ℕ) (cell : Cell) (head : Head) (bodies plane one two three room : List ℕ) → seat < 8 → number ≡ number_of (point_of cell)
    → is_on_board head.settings.width head.settings.height (point_of cell) ≡ true → slice_index plane number ≡ 0 → k ≡ length bodies / 8
    → length room ≡ length (mid_of (seat * (length bodies / 8)) k bodies) → take 3 room ≡ number ∷ number ∷ number ∷ []
    → CountsMore number plane one → CountsMore number one two → CountsMore number two three
    → PlacesSnake seat cell head bodies plane (record head { seats = set head.seats seat (record { parts = 3; out = 0; health = 100; cause = 0; killer = 255; spare = 0 }) })
    (put_mid (seat * (length bodies / 8)) k bodies room) three true
one_placed seat k number cell head bodies plane one two three room eight is on empty row kept body first second third others enough fits bytes =
    let p = point_of cell in
    let new : Seat = record { parts = 3; out = 0; health = 100; cause = 0; killer = 255; spare = 0 } in
    let near = near_from_on_board head.settings.width head.settings.height p on in
    let free : others p ≡ 0 = sym (bytes.bytes p near) ∙ ap (slice_index plane) (sym is) ∙ empty in
    let long0 : length (room_of bodies seat) ≡ length bodies / 8 = length_room bodies seat eight in
    let long : length room ≡ length bodies / 8 = kept ∙ ap length (mid_is bodies seat k row) ∙ long0 in
    let put = put_is bodies room seat eight long k row in
    let all = length_written bodies room seat eight long in
    let own = own_room bodies room seat eight long in
    let here : seat_at (set head.seats seat new) seat ≡ new = get_or-set_same head.seats seat new no_seat fits in
    let writes : WritesSeat seat head bodies (record head { seats = set head.seats seat new }) (written bodies room seat eight long) = record {
      seats = λ j other. get_or-set_other head.seats seat j new no_seat other;
      rooms = λ j other. other_room bodies room seat eight long j other;
      rest = refl;
      eight = length-set head.seats seat new;
      long = all;
    } in
    let placed : SnakePlaced head.settings.width head.settings.height others seat p (record head { seats = set head.seats seat new }) (written bodies room seat eight long) three true = record {
      fits = (λ _. (on, free), λ _. refl);
      shows = λ _. rw (own, here) (shows_starter p number room is body);
      bytes = λ _. three_counted head.settings.width head.settings.height others p near free number plane one two three is first second third bytes;
    } in
    rw put (writes, placed)
