-- A body whose last part is repeated, and a snake that eats.
use Rattle.std.proofs.Common.{◌≡◌, ℕ, ◌+◌, ◌-◌, ◌%◌, ◌<◌, ◌≤◌, Bool, true, false, cond, List, [], ◌∷◌, ◌++◌, length, take, set, get_or, slice_index, count_by, refl, sym, ap, ◌∙◌, arith, inl, inr}
use Rattle.std.specs.List.{list_any}
use Rattle.std.proofs.lemmas.Bool.{cases_Bool, cond_both}
use Rattle.std.proofs.lemmas.List.{get_or-map, get_or-take, length_push, map_push, take_more_set}
use Rattle.std.proofs.lemmas.List.Elements.{All-get_or, All-push}
use Rattle.std.proofs.lemmas.List.Sums.{sum_by_push}
use Rattle.bs_board.specs.declared.boards.point.Point.{Point}
use Rattle.bs_board.specs.declared.boards.snake.Snake.{Snake}
use Rattle.bs_board.specs.boards.Cell.{head_of, is_same_cell, origin}
use Rattle.bs_board.specs.boards.Legal.{is_near}
use Rattle.bs_board.specs.boards.Over.{is_living}
use Rattle.bs_rules.specs.Feeding.{eats, fed_snake, last_of}
use Rattle.bs_batch.specs.declared.layout.Seat.{Seat}
use Rattle.bs_batch.specs.Counts.{CountsMore, and_one}
use Rattle.bs_batch.specs.Numbers.{number_of, numbers_of}
use Rattle.bs_batch.specs.Shown.{parts_on}
use Rattle.bs_batch.specs.inner.Seats.{RepeatsLast, SeatHasRoom, ShowsSeat, byte_with, repeated}
use Rattle.bs_batch.proofs.Alone.{living_parts}
use Rattle.bs_batch.proofs.Bytes.{same_bytes}
use Rattle.bs_batch.proofs.SeatWrites.{food_at_most}
use Rattle.bs_batch.proofs.Shown.{head_near}

pub one_at_most : (b : Bool) → cond {A = ℕ} b 1 0 ≤ 1
one_at_most true = omega arith
one_at_most false = omega arith

module _ (width height : ℕ) (others : Point → ℕ) (food : List Point) (seat : Seat) (room plane : List ℕ) (s : Snake)
    (shows : ShowsSeat width height others food seat room plane s) (spare : SeatHasRoom 1 others room s) where
  abbrev p : Point
  p = last_of s.body

  last_number : (n last : ℕ) → n ≡ seat.parts → last ≡ get_or room (n - 1) 0 → last ≡ number_of p
  last_number n last parts is =
      let long = shows.body.long in
      let all = shows.shows.parts in
      let same : n - 1 ≡ length s.body - 1 = omega arith in
      is ∙ sym (get_or-take (length s.body) room (n - 1) 0 (omega arith)) ∙ ap (λ b. get_or b (n - 1) 0) shows.shows.body
      ∙ get_or-map number_of s.body (n - 1) origin 0 (omega arith) ∙ ap (λ k. number_of (get_or s.body k origin)) same

  numbers_repeated : (n last : ℕ) → n ≡ seat.parts → last ≡ number_of p → take (length (s.body ++ p ∷ [])) (set room n last) ≡ numbers_of (s.body ++ p ∷ [])
  numbers_repeated n last parts is =
      let all = shows.shows.parts in
      let short = spare.short in
      let count = length_push s.body p in
      let one : length (s.body ++ p ∷ []) ≡ n + 1 = omega arith in
      let same : n ≡ length s.body = omega arith in
      let front : take n room ≡ numbers_of s.body = ap (λ k. take k room) same ∙ shows.shows.body in
      let both : take n room ++ last ∷ [] ≡ numbers_of s.body ++ number_of p ∷ [] = rw (front, is) refl in
      ap (λ k. take k (set room n last)) one ∙ take_more_set room n last (omega arith) ∙ both ∙ sym (map_push number_of s.body p)

  near_last : is_near width height p ≡ true
  near_last = let long = shows.body.long in All-get_or (λ q. is_near width height q ≡ true) s.body (length s.body - 1) origin (omega arith) shows.body.near

  one_more : (q : Point) → and_one (byte_with others food s) p q ≡ byte_with others food (repeated s) q
  one_more q =
      let before = living_parts q s shows.alive in
      let after = living_parts q (repeated s) shows.alive in
      let more = sum_by_push (λ r. cond {A = ℕ} (is_same_cell q r) 1 0) s.body p in
      let more' : count_by (is_same_cell q) (s.body ++ p ∷ []) ≡ count_by (is_same_cell q) s.body + cond (is_same_cell q p) 1 0 = more in
      omega arith

  pub repeats : (n last : ℕ) (new : List ℕ) → n ≡ seat.parts → last ≡ get_or room (n - 1) 0 → CountsMore last plane new
      → ShowsSeat width height others food (record seat { parts = (seat.parts + 1) % 65536 }) (set room n last) new (repeated s)
  repeats n last new parts is more =
      let number = last_number n last parts is in
      let count = length_push s.body p in
      let long = shows.body.long in
      let small = spare.small in
      let short = spare.short in
      let all = shows.shows.parts in
      let few = spare.few p in
      let bit = food_at_most food p in
      record {
        shows = record {
          parts = omega arith;
          body = numbers_repeated n last parts number;
          health = shows.shows.health;
          cause = shows.shows.cause;
          killer = shows.shows.killer;
          out = shows.shows.out;
        };
        alive = shows.alive;
        body = record { long = omega arith; near = All-push (λ q. is_near width height q ≡ true) s.body p shows.body.near near_last };
        bytes = same_bytes width height (and_one (byte_with others food s) p) (byte_with others food (repeated s)) new (λ q _. one_more q)
            (more width height (byte_with others food s) p near_last number (omega arith) shows.bytes);
      }

  -- the byte of the head
  byte_at : (head byte : ℕ) → head ≡ number_of (head_of s.body) → byte ≡ slice_index plane head → byte ≡ byte_with others food s (head_of s.body)
  byte_at head byte is at = at ∙ ap (slice_index plane) is ∙ shows.bytes.bytes (head_of s.body) (head_near width height s shows.body)

  bit_says : (there : Bool) (n byte : ℕ) → byte ≡ n + cond there 128 0 → n < 128 → byte < 128 → there ≡ false
  bit_says true n byte e few low = absurd (omega arith)
  bit_says false n byte e few low = refl

  bit_tells : (there : Bool) (n byte : ℕ) → byte ≡ n + cond there 128 0 → n < 128 → 128 ≤ byte → there ≡ true
  bit_tells true n byte e few high = refl
  bit_tells false n byte e few high = absurd (omega arith)

  pub none_eaten : (head byte : ℕ) → head ≡ number_of (head_of s.body) → byte ≡ slice_index plane head → byte < 128
      → ShowsSeat width height others food seat room plane (fed_snake food s) × (false ≡ eats food s)
  none_eaten head byte is at low =
      let here = head_of s.body in
      let few = spare.few here in
      let none = bit_says (list_any (is_same_cell here) food) (others here + parts_on here s) byte (byte_at head byte is at) (omega arith) low in
      let e : eats food s ≡ false = rw (shows.alive, none) refl in
      rw e (shows, refl)

  pub one_eaten : (head byte : ℕ) (seat' : Seat) (room' plane' : List ℕ) → head ≡ number_of (head_of s.body) → byte ≡ slice_index plane head → 128 ≤ byte
      → RepeatsLast (record seat { health = 100 }) room plane seat' room' plane'
      → ShowsSeat width height others food seat' room' plane' (fed_snake food s) × (true ≡ eats food s)
  one_eaten head byte seat' room' plane' is at high repeats =
      let here = head_of s.body in
      let few = spare.few here in
      let some = bit_tells (list_any (is_same_cell here) food) (others here + parts_on here s) byte (byte_at head byte is at) (omega arith) high in
      let e : eats food s ≡ true = rw (shows.alive, some) refl in
      let full : ShowsSeat width height others food (record seat { health = 100 }) room plane (record s { health = 100 }) = record {
        shows = record {
          parts = shows.shows.parts;
          body = shows.shows.body;
          health = refl;
          cause = shows.shows.cause;
          killer = shows.shows.killer;
          out = shows.shows.out;
        };
        alive = shows.alive;
        body = record { long = shows.body.long; near = shows.body.near };
        bytes = shows.bytes;
      } in
      rw e (repeats width height others food (record s { health = 100 }) full (record { short = spare.short; small = spare.small; few = spare.few }), refl)

pub longer_parts : (s : Snake) (x p : Point) (health : ℕ) → parts_on p (record s { body = s.body ++ x ∷ []; health = health }) ≤ parts_on p s + 1
longer_parts s x p health =
    let more = sum_by_push (λ r. cond {A = ℕ} (is_same_cell p r) 1 0) s.body x in
    let more' : count_by (is_same_cell p) (s.body ++ x ∷ []) ≡ count_by (is_same_cell p) s.body + cond (is_same_cell p x) 1 0 = more in
    let one = one_at_most (is_same_cell p x) in
    elim (cases_Bool (is_living s)) [
      | inl alive ↦ rw alive (omega arith)
      | inr dead ↦ rw dead (omega arith)
    ]

-- a snake that eats has one part more
pub fed_parts : (food : List Point) (s : Snake) (p : Point) → parts_on p (fed_snake food s) ≤ parts_on p s + 1
fed_parts food s p =
    cond_both (eats food s) (record s { body = s.body ++ last_of s.body ∷ []; health = 100 }) s (λ t. parts_on p t ≤ parts_on p s + 1)
    (λ _. longer_parts s (last_of s.body) p 100) (λ _. omega arith)
