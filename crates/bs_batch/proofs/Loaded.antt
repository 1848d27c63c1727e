-- Cells that are written into a list, and parts that are counted on the plane, one by one.
use Rattle.std.proofs.Common.{◌≡◌, ℕ, zero, suc, ◌+◌, ◌%◌, ◌<◌, ◌≤◌, true, false, cond, List, [], ◌∷◌, ◌++◌, length, take, set, get_or, slice_index, count_by, refl, sym, ap, ◌∙◌, arith, inl, inr}
use Rattle.std.specs.List.{list_any}
use Rattle.std.proofs.lemmas.Bool.{cases_Bool}
use Rattle.std.proofs.lemmas.List.{get_or-map, length-map, map_push, take_all, take_more, take_more_set}
use Rattle.std.proofs.lemmas.List.Elements.{All-get_or}
use Rattle.std.proofs.lemmas.List.Sums.{sum_by-cons, sum_by_more}
use Rattle.bs_board.specs.declared.boards.point.Point.{Point}
use Rattle.bs_board.specs.boards.Cell.{is_same_cell, origin}
use Rattle.bs_board.specs.boards.Legal.{is_near}
use Rattle.bs_rules.proofs.CollisionTest.{same_cell}
use Rattle.bs_batch.specs.declared.loading.TheConstants.{MOST_PARTS}
use Rattle.bs_batch.specs.Counts.{CountsMore, HasBytes, and_one}
use Rattle.bs_batch.specs.Numbers.{number_of, numbers_of}
use Rattle.bs_batch.specs.Shown.{food_byte}
use Rattle.bs_batch.specs.inner.Loading.{AddsParts, AreNear, BeginsWith, NumbersCell}
use Rattle.bs_batch.proofs.Bytes.{same_bytes}
use Rattle.bs_batch.proofs.Shown.{parts_of_byte}
use Rattle.bs_batch.proofs.SeatWrites.{food_at_most}

-- the first cells are written
abbrev pub WrittenSoFar : ℕ → List Point → List ℕ → Type 0
WrittenSoFar i cells room = (width height : ℕ) → AreNear width height cells → take i room ≡ numbers_of (take i cells)

pub one_written : (i number : ℕ) (cells : List Point) (room : List ℕ) → i < length cells → i < length room → NumbersCell (get_or cells i origin) number
    → WrittenSoFar i cells room → WrittenSoFar (i + 1) cells (set room i number)
one_written i number cells room within fits is so_far width height near =
    let p = get_or cells i origin in
    let here = All-get_or (λ q. is_near width height q ≡ true) cells i origin within near.near in
    let both : take i room ++ number ∷ [] ≡ numbers_of (take i cells) ++ number_of p ∷ [] =
    rw (so_far width height near, is width height near.narrow near.low here) refl in
    take_more_set room i number fits ∙ both ∙ sym (map_push number_of (take i cells) p) ∙ ap numbers_of (sym (take_more cells i origin within))

pub all_written : (i : ℕ) (cells : List Point) (room : List ℕ) → i ≡ length cells → WrittenSoFar i cells room → BeginsWith cells room
all_written i cells room end so_far width height near =
    ap (λ n. take n room) (sym end) ∙ so_far width height near ∙ ap numbers_of (take_all i cells (omega arith))

-- the first parts are counted
pub record StoodParts (width height : ℕ) (others : Point → ℕ) (food : List Point) (i : ℕ) (parts : List Point) (plane : List ℕ) : Type 0 where
  pub few : (p : Point) → others p + count_by (is_same_cell p) (take i parts) ≤ MOST_PARTS
  pub bytes : HasBytes width height (λ p. others p + count_by (is_same_cell p) (take i parts) + food_byte food p) plane

abbrev pub PartsSoFar : List ℕ → ℕ → List ℕ → List ℕ → Type 0
PartsSoFar body i old now =
    (width height : ℕ) (others : Point → ℕ) (food parts : List Point) → AreNear width height parts → body ≡ numbers_of parts
    → ((p : Point) → others p ≤ MOST_PARTS) → HasBytes width height (λ p. others p + food_byte food p) old
    → StoodParts width height others food i parts now

fewer_front : (index : ℕ) (parts : List Point) (p : Point) → count_by (is_same_cell p) (take index parts) ≤ count_by (is_same_cell p) parts
fewer_front zero parts p = omega arith
fewer_front (suc index) [] p = omega arith
fewer_front (suc index) (x ∷ xs) p =
    let rest = fewer_front index xs p in
    let more : count_by (is_same_cell p) (x ∷ xs) ≡ cond (is_same_cell p x) 1 0 + count_by (is_same_cell p) xs = sum_by-cons (λ q. cond {A = ℕ} (is_same_cell p q) 1 0) x xs in
    let less : count_by (is_same_cell p) (x ∷ take index xs) ≡ cond (is_same_cell p x) 1 0 + count_by (is_same_cell p) (take index xs) =
    sum_by-cons (λ q. cond {A = ℕ} (is_same_cell p q) 1 0) x (take index xs) in
    omega arith

module _ (width height : ℕ) (others : Point → ℕ) (food parts : List Point) (near : AreNear width height parts) (i : ℕ) (within : i < length parts)
    (now : List ℕ) (stood : StoodParts width height others food i parts now) where
  abbrev part : Point
  part = get_or parts i origin

  abbrev count : ℕ → Point → ℕ
  count n p = count_by (is_same_cell p) (take n parts)

  abbrev byte : ℕ → Point → ℕ
  byte n p = others p + count n p + food_byte food p

  near_part : is_near width height part ≡ true
  near_part = All-get_or (λ q. is_near width height q ≡ true) parts i origin within near.near

  more_count : (p : Point) → count (i + 1) p ≡ count i p + cond (is_same_cell p part) 1 0
  more_count p = sum_by_more (λ q. cond {A = ℕ} (is_same_cell p q) 1 0) parts i origin within

  own_count : count (i + 1) part ≡ count i part + 1
  own_count =
      let itself : is_same_cell part part ≡ true = (same_cell part part).1 refl in
      more_count part ∙ ap (λ b. count i part + cond b 1 0) itself

  -- the number of parts by the byte of the cell
  pub parts_there : (cell before low : ℕ) → cell ≡ number_of part → before ≡ slice_index now cell → low ≡ before % 128 → low ≡ others part + count i part
  parts_there cell before low is at bits =
      let few = stood.few part in
      let all : before ≡ byte i part = at ∙ ap (slice_index now) is ∙ stood.bytes.bytes part near_part in
      bits ∙ ap (λ n. n % 128) all ∙ parts_of_byte (others part + count i part) (list_any (is_same_cell part) food) (omega arith)

  pub one_added : (cell before low : ℕ) (new : List ℕ) → cell ≡ number_of part → before ≡ slice_index now cell → low ≡ before % 128 → low < MOST_PARTS
      → CountsMore cell now new → StoodParts width height others food (i + 1) parts new
  one_added cell before low new is at bits few more =
      let there = parts_there cell before low is at bits in
      let bit = food_at_most food part in
      record {
        few = λ p. elim (cases_Bool (is_same_cell p part)) [
          | inl same ↦
              let e : p ≡ part = (same_cell p part).0 same in
              let own = own_count in
              rw e (omega arith)
          | inr other ↦
              let same : count (i + 1) p ≡ count i p + 0 = more_count p ∙ ap (λ b. count i p + cond b 1 0) other in
              let f = stood.few p in
              omega arith
        ];
        bytes = same_bytes width height (and_one (byte i) part) (byte (i + 1)) new (λ p _. let m = more_count p in omega arith)
            (more width height (byte i) part near_part is (omega arith) stood.bytes);
      }

  pub one_refused : (cell before low : ℕ) → cell ≡ number_of part → before ≡ slice_index now cell → low ≡ before % 128 → MOST_PARTS ≤ low
      → ((p : Point) → others p + count_by (is_same_cell p) parts ≤ MOST_PARTS) → ⊥
  one_refused cell before low is at bits many few =
      let there = parts_there cell before low is at bits in
      let own = own_count in
      let front = fewer_front (i + 1) parts part in
      let all = few part in
      omega arith

part_number : (body : List ℕ) (parts : List Point) (i : ℕ) → i < length body → body ≡ numbers_of parts → (i < length parts) × (get_or body i 0 ≡ number_of (get_or parts i origin))
part_number body parts i within is =
    let long : length body ≡ length parts = ap length is ∙ length-map parts number_of in
    (omega arith, ap (λ b. get_or b i 0) is ∙ get_or-map number_of parts i origin 0 (omega arith))

pub next_added : (body : List ℕ) (i before low : ℕ) (old now new : List ℕ) → i < length body → before ≡ slice_index now (get_or body i 0) → low ≡ before % 128
    → low < MOST_PARTS → CountsMore (get_or body i 0) now new → PartsSoFar body i old now → PartsSoFar body (i + 1) old new
next_added body i before low old now new within at bits few more so_far width height others food parts near is start has =
    let n = part_number body parts i within is in
    one_added width height others food parts near i n.0 now (so_far width height others food parts near is start has) (get_or body i 0) before low new n.1 at bits few more

pub none_more : (body : List ℕ) (i before low : ℕ) (old now : List ℕ) → i < length body → before ≡ slice_index now (get_or body i 0) → low ≡ before % 128
    → MOST_PARTS ≤ low → PartsSoFar body i old now → AddsParts body old now false
none_more body i before low old now within at bits many so_far width height others food parts near is start has =
    let n = part_number body parts i within is in
    let no = one_refused width height others food parts near i n.0 now (so_far width height others food parts near is start has) (get_or body i 0) before low n.1 at bits many in
    record { few = (λ t. absurd cc, λ all. absurd (no all)); bytes = λ t. absurd cc }

pub all_added : (body : List ℕ) (i : ℕ) (old now : List ℕ) → length body ≤ i → PartsSoFar body i old now → AddsParts body old now true
all_added body i old now end so_far width height others food parts near is start has =
    let long : length body ≡ length parts = ap length is ∙ length-map parts number_of in
    let stood = so_far width height others food parts near is start has in
    let all : take i parts ≡ parts = take_all i parts (omega arith) in
    record {
      few = (λ _ p. rw all at (stood.few p), λ _. refl);
      bytes = λ _. same_bytes width height (λ p. others p + count_by (is_same_cell p) (take i parts) + food_byte food p)
          (λ p. others p + count_by (is_same_cell p) parts + food_byte food p) now
          (λ p _. ap (λ l. others p + count_by (is_same_cell p) l + food_byte food p) all) stood.bytes;
    }
