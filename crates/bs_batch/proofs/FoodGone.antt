-- Food that leaves the list and the plane cell by cell.
use Rattle.std.proofs.Common.{◌≡◌, ℕ, ◌+◌, ◌%◌, ◌<◌, ◌≤◌, Bool, true, false, not, ◌&&◌, ◌||◌, cond, List, [], ◌∷◌, ◌++◌, length, take, drop, set, get_or, slice_index, refl, sym, ap, ◌∙◌, arith, inl, inr, length-take, length-take-le}
use Rattle.std.specs.List.{filter, list_any}
use Rattle.std.proofs.lemmas.Bool.{cases_Bool}
use Rattle.std.proofs.lemmas.List.{append-nil, drop-drop, drop-set-lt, get_or-drop, get_or-map, get_or-take, length-map, map_push, take_all, take_more, take_more_set}
use Rattle.std.proofs.lemmas.List.Elements.{filter-append}
use Rattle.bs_board.specs.declared.boards.board.Board.{Board}
use Rattle.bs_board.specs.declared.boards.point.Point.{Point}
use Rattle.bs_board.specs.boards.Cell.{is_same_cell, origin}
use Rattle.bs_board.specs.boards.Legal.{is_near}
use Rattle.bs_rules.specs.Feeding.{food_left, has_head_on}
use Rattle.bs_rules.proofs.CollisionTest.{same_cell}
use Rattle.bs_batch.specs.declared.layout.Head.{Head}
use Rattle.bs_batch.specs.Counts.{HasBytes, WritesFood}
use Rattle.bs_batch.specs.Numbers.{number_of, numbers_of}
use Rattle.bs_batch.specs.Shown.{ShowsSeats, byte_of, food_byte, occupants}
use Rattle.bs_batch.specs.Food.{HasFoodLeft}
use Rattle.bs_batch.specs.inner.Food.{KeepsFood}
use Rattle.bs_batch.proofs.Bytes.{same_bytes}

pub any_push : {X : Type 0} (f : X → Bool) (xs : List X) (y : X) → list_any f (xs ++ y ∷ []) ≡ (list_any f xs || f y)
any_push f [] y = elim (f y) as (λ b. (b || false) ≡ (false || b)) [ true ↦ refl | false ↦ refl ]
any_push f (x ∷ xs) y =
    let rest = any_push f xs y in
    rw rest (elim (f x) as (λ b. (b || (list_any f xs || f y)) ≡ (b || list_any f xs || f y)) [ true ↦ refl | false ↦ refl ])

bits_gone : (n : ℕ) (c d : Bool) → n < 128 → (n + cond c 0 (cond d 128 0)) % 128 + 0 ≡ n
bits_gone n true d few = omega arith
bits_gone n false true few = omega arith
bits_gone n false false few = omega arith

with_true : (a : Bool) → (a || true) ≡ true
with_true true = refl
with_true false = refl

with_false : (a : Bool) → (a || false) ≡ a
with_false true = refl
with_false false = refl

and_false : (a : Bool) → (a && false) ≡ false
and_false true = refl
and_false false = refl

is_left : (q : Point → Bool) (c : Point) (cells : List Point) → list_any (is_same_cell c) (filter q cells) ≡ (list_any (is_same_cell c) cells && q c)
is_left q c [] = refl
is_left q c (x ∷ xs) =
    elim (cases_Bool (is_same_cell c x)) [
      | inl same ↦
          let e : c ≡ x = (same_cell c x).0 same in
          elim (cases_Bool (q c)) [
            | inl stays ↦ rw (ap q (sym e) ∙ stays, same, stays) refl
            | inr goes ↦ rw (ap q (sym e) ∙ goes, same, goes) (is_left q c xs ∙ (ap (λ b. list_any (is_same_cell c) xs && b) goes ∙ and_false _))
          ]
      | inr other ↦ elim (cases_Bool (q x)) [
        | inl stays ↦ rw (stays, other) (is_left q c xs)
        | inr goes ↦ rw (goes, other) (is_left q c xs)
      ]
    ]

at_end : (any under : Bool) → cond {A = ℕ} (any && under) 0 (cond any 128 0) ≡ cond (any && not under) 128 0
at_end true true = refl
at_end true false = refl
at_end false true = refl
at_end false false = refl

module _ (b : Board) where
  abbrev under : Point → Bool
  under q = list_any (has_head_on q) b.snakes

  abbrev keep : Point → Bool
  keep q = not (under q)

  abbrev seen : ℕ → Point → Bool
  seen i q = list_any (is_same_cell q) (take i b.food)

  -- the food under heads is gone from the first i cells
  abbrev byte_so_far : ℕ → Point → ℕ
  byte_so_far i q = occupants b.snakes q + cond (seen i q && under q) 0 (food_byte b.food q)

  pub record FoodSoFar (i left : ℕ) (food0 food plane : List ℕ) : Type 0 where
    pub front : take left food ≡ numbers_of (filter keep (take i b.food))
    pub rest : drop i food ≡ drop i food0
    pub bytes : HasBytes b.width b.height (byte_so_far i) plane

  pub none_so_far : (food plane : List ℕ) → HasBytes b.width b.height (byte_of b.food b.snakes) plane → FoodSoFar 0 0 food food plane
  none_so_far food plane has = record { front = refl; rest = refl; bytes = has }

  pub cell_of : (i left : ℕ) (food0 food plane : List ℕ) → i < length b.food → take (length b.food) food0 ≡ numbers_of b.food → FoodSoFar i left food0 food plane
      → slice_index food i ≡ number_of (get_or b.food i origin)
  cell_of i left food0 food plane within all so_far =
      let zero : i + 0 ≡ i = omega arith in
      ap (λ k. get_or food k 0) (sym zero) ∙ sym (get_or-drop i food 0 0) ∙ ap (λ l. get_or l 0 0) so_far.rest ∙ get_or-drop i food0 0 0 ∙ ap (λ k. get_or food0 k 0) zero
      ∙ sym (get_or-take (length b.food) food0 i 0 within) ∙ ap (λ l. get_or l i 0) all ∙ get_or-map number_of b.food i origin 0 within

  module _ (i : ℕ) (within : i < length b.food) where
    abbrev p : Point
    p = get_or b.food i origin

    next_seen : (q : Point) → seen (i + 1) q ≡ (seen i q || is_same_cell q p)
    next_seen q = ap (list_any (is_same_cell q)) (take_more b.food i origin within) ∙ any_push (is_same_cell q) (take i b.food) p

    elsewhere : (q : Point) → is_same_cell q p ≡ false → seen (i + 1) q ≡ seen i q
    elsewhere q other = next_seen q ∙ ap (λ s. seen i q || s) other ∙ with_false (seen i q)

    next_kept : filter keep (take (i + 1) b.food) ≡ filter keep (take i b.food) ++ filter keep (p ∷ [])
    next_kept = ap (filter keep) (take_more b.food i origin within) ∙ filter-append keep (take i b.food) (p ∷ [])

    gone_byte : under p ≡ true → occupants b.snakes p < 128 → (q : Point)
        → cond (is_same_cell q p) (byte_so_far i q % 128 + 0) (byte_so_far i q) ≡ byte_so_far (i + 1) q
    gone_byte on few q = elim (cases_Bool (is_same_cell q p)) [
      | inl same ↦
          let e : q ≡ p = (same_cell q p).0 same in
          let itself : is_same_cell p p ≡ true = (same_cell p p).1 refl in
          let there : seen (i + 1) p ≡ true = next_seen p ∙ ap (λ s. seen i p || s) itself ∙ with_true (seen i p) in
          let low = bits_gone (occupants b.snakes p) (seen i p && under p) (list_any (is_same_cell p) b.food) few in
          let none : byte_so_far (i + 1) p ≡ occupants b.snakes p = rw (there, on) (omega arith) in
          rw (e, itself) (low ∙ sym none)
      | inr other ↦ rw other (ap (λ s. occupants b.snakes q + cond (s && under q) 0 (food_byte b.food q)) (sym (elsewhere q other)))
    ]

    kept_byte : under p ≡ false → (q : Point) → byte_so_far i q ≡ byte_so_far (i + 1) q
    kept_byte off q = elim (cases_Bool (is_same_cell q p)) [
      | inl same ↦
          let e : q ≡ p = (same_cell q p).0 same in
          let one : (seen i p && under p) ≡ false = ap (λ u. seen i p && u) off ∙ and_false (seen i p) in
          let two : (seen (i + 1) p && under p) ≡ false = ap (λ u. seen (i + 1) p && u) off ∙ and_false (seen (i + 1) p) in
          rw e (ap (λ s. occupants b.snakes p + cond s 0 (food_byte b.food p)) (one ∙ sym two))
      | inr other ↦ ap (λ s. occupants b.snakes q + cond (s && under q) 0 (food_byte b.food q)) (sym (elsewhere q other))
    ]

    pub one_less : (left cell : ℕ) (food0 food plane plane' : List ℕ) → under p ≡ true → is_near b.width b.height p ≡ true → occupants b.snakes p < 128
        → cell ≡ number_of p → FoodSoFar i left food0 food plane → WritesFood 0 cell plane plane' → FoodSoFar (i + 1) left food0 food plane'
    one_less left cell food0 food plane plane' on near few is so_far writes =
        let none : filter keep (p ∷ []) ≡ [] = rw on refl in
        let same : filter keep (take (i + 1) b.food) ≡ filter keep (take i b.food) =
        next_kept ∙ ap (λ l. filter keep (take i b.food) ++ l) none ∙ append-nil (filter keep (take i b.food)) in
        record {
          front = so_far.front ∙ ap numbers_of (sym same);
          rest = sym (drop-drop 1 i food) ∙ ap (drop 1) so_far.rest ∙ drop-drop 1 i food0;
          bytes = same_bytes b.width b.height (λ q. cond (is_same_cell q p) (byte_so_far i q % 128 + 0) (byte_so_far i q)) (byte_so_far (i + 1)) plane'
              (λ q _. gone_byte on few q) (writes b.width b.height (byte_so_far i) p near is so_far.bytes);
        }

    pub one_kept : (left cell : ℕ) (food0 food plane : List ℕ) → under p ≡ false → left ≤ i → left < length food
        → cell ≡ number_of p → FoodSoFar i left food0 food plane → FoodSoFar (i + 1) (left + 1) food0 (set food left cell) plane
    one_kept left cell food0 food plane off low fits is so_far =
        let one : filter keep (p ∷ []) ≡ p ∷ [] = rw off refl in
        let more : filter keep (take (i + 1) b.food) ≡ filter keep (take i b.food) ++ p ∷ [] = next_kept ∙ ap (λ l. filter keep (take i b.food) ++ l) one in
        let both : take left food ++ cell ∷ [] ≡ numbers_of (filter keep (take i b.food)) ++ number_of p ∷ [] = rw (so_far.front, is) refl in
        record {
          front = take_more_set food left cell fits ∙ both ∙ sym (map_push number_of (filter keep (take i b.food)) p) ∙ ap numbers_of (sym more);
          rest = drop-set-lt (i + 1) food left cell (omega arith) ∙ sym (drop-drop 1 i food) ∙ ap (drop 1) so_far.rest ∙ drop-drop 1 i food0;
          bytes = same_bytes b.width b.height (byte_so_far i) (byte_so_far (i + 1)) plane (λ q _. kept_byte off q) so_far.bytes;
        }

    pub one_step : (left left' : ℕ) (food0 food plane food' plane' : List ℕ) (gone : Bool) → gone ≡ under p → is_near b.width b.height p ≡ true
        → occupants b.snakes p < 128 → slice_index food i ≡ number_of p → left ≤ i → left < length food → FoodSoFar i left food0 food plane
        → KeepsFood gone i left food plane food' plane' left' → FoodSoFar (i + 1) left' food0 food' plane'
    one_step left left' food0 food plane food' plane' gone is near few number low fits so_far keeps = elim (cases_Bool gone) [
      | inl eaten ↦
          let t = keeps.taken eaten in
          rw (t.0, t.1) (one_less left (slice_index food i) food0 food plane plane' (sym is ∙ eaten) near few number so_far t.2)
      | inr other ↦
          let t = keeps.kept other in
          rw (t.0, t.1, t.2) (one_kept left (slice_index food i) food0 food plane (sym is ∙ other) low fits number so_far)
    ]

  pub all_listed : (i left : ℕ) (food0 food plane : List ℕ) → i ≡ length b.food → FoodSoFar i left food0 food plane
      → take left food ≡ numbers_of (food_left b.snakes b.food)
  all_listed i left food0 food plane end so_far = so_far.front ∙ ap (λ l. numbers_of (filter keep l)) (take_all i b.food (omega arith))

  pub all_bytes : (i left : ℕ) (food0 food plane : List ℕ) → i ≡ length b.food → FoodSoFar i left food0 food plane
      → HasBytes b.width b.height (byte_of (food_left b.snakes b.food) b.snakes) plane
  all_bytes i left food0 food plane end so_far =
      same_bytes b.width b.height (byte_so_far i) (byte_of (food_left b.snakes b.food) b.snakes) plane
      (λ q _.
      let all : seen i q ≡ list_any (is_same_cell q) b.food = ap (list_any (is_same_cell q)) (take_all i b.food (omega arith)) in
      let left_any = is_left keep q b.food in
      ap (λ s. occupants b.snakes q + cond (s && under q) 0 (food_byte b.food q)) all
      ∙ ap (λ n. occupants b.snakes q + n) (at_end (list_any (is_same_cell q) b.food) (under q) ∙ ap (λ s. cond {A = ℕ} s 128 0) (sym left_any)))
      so_far.bytes

pub listed_fits : (n : ℕ) (food0 : List ℕ) (cells : List Point) → n ≡ length cells → take (length cells) food0 ≡ numbers_of cells → n ≤ length food0
listed_fits n food0 cells is listed =
    let a = length-take (length cells) food0 in
    let c : length (take (length cells) food0) ≡ length cells = ap length listed ∙ length-map cells number_of in
    omega arith

pub low_after : (gone : Bool) (i left left' : ℕ) (food plane food' plane' : List ℕ) → left ≤ i → KeepsFood gone i left food plane food' plane' left' → left' ≤ i + 1
low_after gone i left left' food plane food' plane' low keeps = elim (cases_Bool gone) [
  | inl eaten ↦ let t = keeps.taken eaten in let e = t.0 in omega arith
  | inr other ↦ let t = keeps.kept other in let e = t.0 in omega arith
]

-- the list and the plane at the end
pub ends : (b : Board) (i left foods : ℕ) (head : Head) (food0 food plane0 plane bodies : List ℕ) → i ≡ length b.food → left ≤ length food → foods ≡ left
    → ShowsSeats head plane0 bodies b → FoodSoFar b i left food0 food plane → HasFoodLeft b (record head { foods = foods }) food plane bodies
ends b i left foods head food0 food plane0 plane bodies end fits is shows so_far =
    let listed = all_listed b i left food0 food plane end so_far in
    let count : left ≡ length (food_left b.snakes b.food) =
    sym (length-take-le left food fits) ∙ ap length listed ∙ length-map (food_left b.snakes b.food) number_of in
    record {
      seats = record {
        settings = record {
          mode = shows.settings.mode;
          width = shows.settings.width;
          height = shows.settings.height;
          seats = shows.settings.seats;
          min_food = shows.settings.min_food;
          chance = shows.settings.chance;
        };
        turn = shows.turn;
        eight = shows.eight;
        snakes = shows.snakes;
        counts = all_bytes b i left food0 food plane end so_far;
      };
      list = record { count = is ∙ count; listed = ap (λ n. take n food) (sym count) ∙ listed };
    }
