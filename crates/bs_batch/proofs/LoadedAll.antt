-- The snakes of a board that are loaded seat by seat, and its food.
use Rattle.std.proofs.Common.{◌≡◌, ℕ, ◌+◌, ◌/◌, ◌%◌, ◌<◌, ◌≤◌, Bool, true, false, ◌||◌, cond, List, length, take, get_or, All, refl, subst, sym, ap, ◌∙◌, arith, inl, inr}
use Rattle.std.specs.List.{list_any}
use Rattle.std.proofs.lemmas.Bool.{cases_Bool, cases_eq}
use Rattle.std.proofs.lemmas.List.{get_or_default, take_all, take_more}
use Rattle.std.proofs.lemmas.List.Elements.{All-get_or, All-nil, All-push}
use Rattle.std.proofs.lemmas.List.Sums.{sum_by_more, sum_by_more_le}
use Rattle.bs_board.specs.declared.boards.point.Point.{Point}
use Rattle.bs_board.specs.declared.boards.snake.Snake.{Snake}
use Rattle.bs_board.specs.boards.Cell.{is_same_cell, origin}
use Rattle.bs_board.specs.boards.Legal.{is_near}
use Rattle.bs_rules.specs.Collision.{nobody, snake_at}
use Rattle.bs_batch.specs.declared.layout.Head.{Head}
use Rattle.bs_batch.specs.Counts.{HasBytes, WritesFood}
use Rattle.bs_batch.specs.Loading.{AreShort, HasFewParts}
use Rattle.bs_batch.specs.Shown.{ShowsSnake, food_byte, occupants, parts_on, room_of, seat_at}
use Rattle.bs_batch.specs.inner.Loading.{AreNear, CanLoad, LoadsSeat, LoadsSnakes, NumbersCell, SnakesLoaded}
use Rattle.bs_batch.proofs.Bytes.{same_bytes}
use Rattle.bs_batch.proofs.FoodGone.{any_push}

-- the first i snakes are loaded
pub record StoodLoaded (width height : ℕ) (food : List Point) (i : ℕ) (snakes : List Snake) (old : Head) (bodies0 : List ℕ) (head : Head) (bodies plane : List ℕ) : Type 0 where
  pub short : AreShort (length bodies / 8) (take i snakes)
  pub few : HasFewParts (take i snakes)
  pub shows : (k : ℕ) → k < i → ShowsSnake (seat_at head.seats k) (room_of bodies k) (snake_at snakes k)
  pub bytes : HasBytes width height (λ p. occupants (take i snakes) p + food_byte food p) plane
  pub rest : head ≡ record old { seats = head.seats }
  pub eight : length head.seats ≡ 8
  pub long : length bodies ≡ length bodies0

abbrev pub LoadedSoFar : List Snake → ℕ → Head → List ℕ → List ℕ → Head → List ℕ → List ℕ → Type 0
LoadedSoFar snakes i head0 bodies0 plane0 head bodies plane =
    (width height : ℕ) (food : List Point) → All (CanLoad width height) snakes → length snakes ≤ 8 → length bodies0 ≤ 8192 → length head0.seats ≡ 8
    → HasBytes width height (food_byte food) plane0 → StoodLoaded width height food i snakes head0 bodies0 head bodies plane

pub none_loaded : (snakes : List Snake) (head : Head) (bodies plane : List ℕ) → LoadedSoFar snakes 0 head bodies plane head bodies plane
none_loaded snakes head bodies plane width height food can few small eight has = record {
  short = All-nil (λ s. length s.body ≤ length bodies / 8);
  few = λ p. omega arith;
  shows = λ k before. absurd (omega arith);
  bytes = same_bytes width height (food_byte food) (λ p. occupants (take 0 snakes) p + food_byte food p) plane (λ p _. omega arith) has;
  rest = refl;
  eight = eight;
  long = refl;
}

module _ (width height : ℕ) (food : List Point) (snakes : List Snake) (i : ℕ) (within : i < length snakes) (eight : length snakes ≤ 8) (can : All (CanLoad width height) snakes)
    (head0 : Head) (bodies0 : List ℕ) (small : length bodies0 ≤ 8192) (head : Head) (bodies plane : List ℕ) (stood : StoodLoaded width height food i snakes head0 bodies0 head bodies plane)
    (head' : Head) (bodies' plane' : List ℕ) (result : Bool) (step : LoadsSeat i (snake_at snakes i) head bodies plane head' bodies' plane' result) where
  abbrev s : Snake
  s = snake_at snakes i

  more : (p : Point) → occupants (take (i + 1) snakes) p ≡ occupants (take i snakes) p + parts_on p s
  more p = sum_by_more (parts_on p) snakes i nobody within

  can_one : CanLoad width height s
  can_one = All-get_or (CanLoad width height) snakes i nobody within can

  low : length bodies ≤ 8192
  low = let l = stood.long in omega arith

  fits : i < length head.seats
  fits = let e = stood.eight in omega arith

  pub one_loaded : result ≡ true → StoodLoaded width height food (i + 1) snakes head0 bodies0 head' bodies' plane'
  one_loaded t =
      let r = step width height (occupants (take i snakes)) food can_one low fits stood.few stood.bytes in
      let both = r.1.fits.0 t in
      let longer = r.0.long in
      let short : AreShort (length bodies' / 8) (take i snakes) = rw longer stood.short in
      record {
        short = rw (take_more snakes i nobody within) (All-push (λ s. length s.body ≤ length bodies' / 8) (take i snakes) s short both.0);
        few = λ p. let m = more p in let f = both.1 p in omega arith;
        shows = λ k before. elim (cases_eq k i) [
          | inl same ↦ rw same (r.1.shows t)
          | inr other ↦ rw (r.0.seats k other, r.0.rooms k other) (stood.shows k (omega arith))
        ];
        bytes = same_bytes width height (λ p. occupants (take i snakes) p + parts_on p s + food_byte food p)
            (λ p. occupants (take (i + 1) snakes) p + food_byte food p) plane' (λ p _. let m = more p in omega arith) (r.1.bytes t);
        rest = r.0.rest ∙ ap (λ (h : Head). record h { seats = head'.seats }) stood.rest;
        eight = r.0.eight ∙ stood.eight;
        long = longer ∙ stood.long;
      }

  pub one_refused : result ≡ false → SnakesLoaded width height food snakes head0 head' bodies' plane' false
  one_refused f =
      let r = step width height (occupants (take i snakes)) food can_one low fits stood.few stood.bytes in
      record {
        fits = (
          λ t. absurd cc,
          λ both.
              let short = All-get_or (λ s. length s.body ≤ length bodies' / 8) snakes i nobody within both.0 in
              let yes : result ≡ true = r.1.fits.1 (
                short,
                λ p.
                    let all = both.1 p in
                    let part = sum_by_more_le (parts_on p) snakes i nobody within in
                    let part' : occupants (take i snakes) p + parts_on p s ≤ occupants snakes p = part in
                    omega arith,
              ) in
              absurd cc,
        );
        shows = λ t. absurd cc;
        bytes = λ t. absurd cc;
        rest = r.0.rest ∙ ap (λ (h : Head). record h { seats = head'.seats }) stood.rest;
        eight = r.0.eight ∙ stood.eight;
      }

at_seat : (snakes : List Snake) (i : ℕ) (one : Snake) (head : Head) (bodies plane : List ℕ) (head' : Head) (bodies' plane' : List ℕ) (result : Bool) → i < length snakes
    → one ≡ get_or snakes i one → LoadsSeat i one head bodies plane head' bodies' plane' result → LoadsSeat i (snake_at snakes i) head bodies plane head' bodies' plane' result
at_seat snakes i one head bodies plane head' bodies' plane' result within is step =
    subst (λ (s : Snake). LoadsSeat i s head bodies plane head' bodies' plane' result) (is ∙ get_or_default snakes i one nobody within) step

pub next_loaded : (snakes : List Snake) (i : ℕ) (head0 : Head) (bodies0 plane0 : List ℕ) (head : Head) (bodies plane : List ℕ) (head' : Head) (bodies' plane' : List ℕ) (result : Bool)
    (one : Snake) → i < length snakes → one ≡ get_or snakes i one → result ≡ true → LoadedSoFar snakes i head0 bodies0 plane0 head bodies plane
    → LoadsSeat i one head bodies plane head' bodies' plane' result → LoadedSoFar snakes (i + 1) head0 bodies0 plane0 head' bodies' plane'
next_loaded snakes i head0 bodies0 plane0 head bodies plane head' bodies' plane' result one within is t so_far step width height food can few small eight has =
    one_loaded width height food snakes i within few can head0 bodies0 small head bodies plane (so_far width height food can few small eight has) head' bodies' plane' result
    (at_seat snakes i one head bodies plane head' bodies' plane' result within is step) t

pub none_more_loaded : (snakes : List Snake) (i : ℕ) (head0 : Head) (bodies0 plane0 : List ℕ) (head : Head) (bodies plane : List ℕ) (head' : Head) (bodies' plane' : List ℕ) (result : Bool)
    (one : Snake) → i < length snakes → one ≡ get_or snakes i one → result ≡ false → LoadedSoFar snakes i head0 bodies0 plane0 head bodies plane
    → LoadsSeat i one head bodies plane head' bodies' plane' result → LoadsSnakes snakes head0 bodies0 plane0 head' bodies' plane' false
none_more_loaded snakes i head0 bodies0 plane0 head bodies plane head' bodies' plane' result one within is f so_far step width height food can few small eight has =
    one_refused width height food snakes i within few can head0 bodies0 small head bodies plane (so_far width height food can few small eight has) head' bodies' plane' result
    (at_seat snakes i one head bodies plane head' bodies' plane' result within is step) f

pub all_loaded : (snakes : List Snake) (i : ℕ) (head0 : Head) (bodies0 plane0 : List ℕ) (head : Head) (bodies plane : List ℕ) → i ≡ length snakes
    → LoadedSoFar snakes i head0 bodies0 plane0 head bodies plane → LoadsSnakes snakes head0 bodies0 plane0 head bodies plane true
all_loaded snakes i head0 bodies0 plane0 head bodies plane end so_far width height food can few small eight has =
    let stood = so_far width height food can few small eight has in
    let all : take i snakes ≡ snakes = take_all i snakes (omega arith) in
    record {
      fits = (λ _. (rw all at stood.short, rw all at stood.few), λ _. refl);
      shows = λ _ k before. stood.shows k (omega arith);
      bytes = λ _. same_bytes width height (λ p. occupants (take i snakes) p + food_byte food p) (λ p. occupants snakes p + food_byte food p) plane
          (λ p _. ap (λ l. occupants l p + food_byte food p) all) stood.bytes;
      rest = stood.rest;
      eight = stood.eight;
    }

with_true : (a : Bool) → (a || true) ≡ true
with_true true = refl
with_true false = refl

with_false : (a : Bool) → (a || false) ≡ a
with_false true = refl
with_false false = refl

-- the first cells have food
abbrev pub FoodAdded : List Point → ℕ → List ℕ → List ℕ → Type 0
FoodAdded cells i old now =
    (width height : ℕ) → AreNear width height cells → HasBytes width height (λ _. 0) old → HasBytes width height (food_byte (take i cells)) now

marked : (there : Bool) → cond {A = ℕ} there 128 0 % 128 + 128 ≡ 128
marked true = refl
marked false = refl

pub one_food_added : (cells : List Point) (i number : ℕ) (old now new : List ℕ) → i < length cells → NumbersCell (get_or cells i origin) number
    → WritesFood 128 number now new → FoodAdded cells i old now → FoodAdded cells (i + 1) old new
one_food_added cells i number old now new within is writes so_far width height near has =
    let p = get_or cells i origin in
    let here : is_near width height p ≡ true = All-get_or (λ q. is_near width height q ≡ true) cells i origin within near.near in
    let next : (q : Point) → list_any (is_same_cell q) (take (i + 1) cells) ≡ (list_any (is_same_cell q) (take i cells) || is_same_cell q p) =
    λ q. ap (list_any (is_same_cell q)) (take_more cells i origin within) ∙ any_push (is_same_cell q) (take i cells) p in
    same_bytes width height (λ q. cond (is_same_cell q p) (food_byte (take i cells) q % 128 + 128) (food_byte (take i cells) q)) (food_byte (take (i + 1) cells)) new
    (λ q _. elim (cases_Bool (is_same_cell q p)) [
      | inl same ↦
          let yes : list_any (is_same_cell q) (take (i + 1) cells) ≡ true = next q ∙ ap (λ b. list_any (is_same_cell q) (take i cells) || b) same ∙ with_true _ in
          ap (λ b. cond b (food_byte (take i cells) q % 128 + 128) (food_byte (take i cells) q)) same ∙ marked (list_any (is_same_cell q) (take i cells))
          ∙ ap (λ b. cond {A = ℕ} b 128 0) (sym yes)
      | inr other ↦
          let as_before : list_any (is_same_cell q) (take (i + 1) cells) ≡ list_any (is_same_cell q) (take i cells) =
          next q ∙ ap (λ b. list_any (is_same_cell q) (take i cells) || b) other ∙ with_false _ in
          ap (λ b. cond b (food_byte (take i cells) q % 128 + 128) (food_byte (take i cells) q)) other ∙ ap (λ b. cond {A = ℕ} b 128 0) (sym as_before)
    ]) (writes width height (food_byte (take i cells)) p here (is width height near.narrow near.low here) (so_far width height near has))

pub all_food_added : (cells : List Point) (i width height : ℕ) (old now : List ℕ) → length cells ≤ i → AreNear width height cells → HasBytes width height (λ _. 0) old
    → FoodAdded cells i old now → HasBytes width height (food_byte cells) now
all_food_added cells i width height old now end near has so_far =
    same_bytes width height (food_byte (take i cells)) (food_byte cells) now (λ q _. ap (λ l. food_byte l q) (take_all i cells end)) (so_far width height near has)
