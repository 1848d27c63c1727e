-- The first food that is placed and dropped cell by cell.
use Rattle.std.proofs.Common.{◌≡◌, ℕ, ◌+◌, ◌*◌, ◌%◌, ◌<◌, ◌≤◌, Bool, true, false, ◌||◌, cond, List, [], ◌∷◌, ◌++◌, length, take, set, get_or, slice_index, refl, sym, ap, ◌∙◌, arith, inl, inr, length-set}
use Rattle.std.specs.List.{list_all, list_any}
use Rattle.std.proofs.lemmas.Bool.{and_parts, cases_Bool}
use Rattle.std.proofs.lemmas.List.{get_or-map, get_or-take, length-map, length-take-le, map_push, take_all, take_more, take_more_set}
use Rattle.std.proofs.lemmas.List.Elements.{All-get_or}
use Rattle.std.proofs.lemmas.List.Sums.{AllPass-from_list_all}
use Rattle.bs_board.specs.declared.boards.point.Point.{Point}
use Rattle.bs_board.specs.boards.Cell.{are_distinct_cells, is_on_board, is_same_cell, origin}
use Rattle.bs_board.specs.commands.Setup.{is_fit_food}
use Rattle.bs_board.proofs.boards.CellsOnBoard.{cells_on_board}
use Rattle.bs_rules.proofs.Movable.{near_from_on_board}
use Rattle.bs_batch.specs.declared.layout.Cell.{Cell}
use Rattle.bs_batch.specs.declared.layout.Head.{Head}
use Rattle.bs_batch.specs.declared.layout.Settings.{Settings}
use Rattle.bs_batch.specs.Counts.{HasBytes, WritesFood}
use Rattle.bs_batch.specs.Numbers.{number_of, numbers_of}
use Rattle.bs_batch.specs.Shown.{ShowsFood, food_byte}
use Rattle.bs_batch.specs.Starting.{point_of, points_of}
use Rattle.bs_batch.specs.inner.Starting.{DropsFood, FoodPlaced, PlacesFood}
use Rattle.bs_batch.proofs.Bytes.{same_bytes}
use Rattle.bs_batch.proofs.FirstCells.{fit_front, fit_more, next_fits}
use Rattle.bs_batch.proofs.FoodGone.{any_push}
use Rattle.bs_batch.proofs.StartedAll.{no_cell}

-- the first i cells of the food are placed
pub record StoodFood (i : ℕ) (cells : List Point) (others : Point → ℕ) (old head : Head) (list plane : List ℕ) : Type 0 where
  pub fit : is_fit_food old.settings.width old.settings.height (take i cells) ≡ true
  pub listed : take i list ≡ numbers_of (take i cells)
  pub count : head.foods ≡ i
  pub bytes : HasBytes old.settings.width old.settings.height (λ p. others p + food_byte (take i cells) p) plane
  pub rest : head ≡ record old { foods = head.foods }
  pub short : i ≤ length list

abbrev pub FoodSoFar : List Cell → ℕ → Head → List ℕ → Head → List ℕ → List ℕ → Type 0
FoodSoFar cells i head0 plane0 head list plane =
    (others : Point → ℕ) → ((p : Point) → others p < 128) → head0.foods ≡ 0 → head0.settings.width * head0.settings.height ≤ length list → length list ≤ 1024
    → HasBytes head0.settings.width head0.settings.height others plane0 → StoodFood i (points_of cells) others head0 head list plane

pub no_food : (cells : List Cell) (head : Head) (list plane : List ℕ) → FoodSoFar cells 0 head plane head list plane
no_food cells head list plane others few none area small has = record {
  fit = refl;
  listed = refl;
  count = none;
  bytes = same_bytes head.settings.width head.settings.height others (λ p. others p + food_byte [] p) plane (λ p _. omega arith) has;
  rest = refl;
  short = omega arith;
}

with_true : (a : Bool) → (a || true) ≡ true
with_true true = refl
with_true false = refl

with_false : (a : Bool) → (a || false) ≡ a
with_false true = refl
with_false false = refl

bit_says : (there : Bool) (n byte : ℕ) → byte ≡ n + cond there 128 0 → n < 128 → byte < 128 → there ≡ false
bit_says true n byte e few low = absurd (omega arith)
bit_says false n byte e few low = refl

bit_tells : (there : Bool) (n byte : ℕ) → byte ≡ n + cond there 128 0 → n < 128 → 128 ≤ byte → there ≡ true
bit_tells true n byte e few high = refl
bit_tells false n byte e few high = absurd (omega arith)

marked : (there : Bool) (n : ℕ) → n < 128 → (n + cond there 128 0) % 128 + 128 ≡ n + 128
marked true n few = omega arith
marked false n few = omega arith

module _ (cells : List Point) (i : ℕ) (within : i < length cells) (others : Point → ℕ) (few : (p : Point) → others p < 128) (old head : Head) (list plane : List ℕ)
    (area : old.settings.width * old.settings.height ≤ length list) (small : length list ≤ 1024) (stood : StoodFood i cells others old head list plane)
    (cell : Cell) (is : point_of cell ≡ get_or cells i origin) (number : ℕ) (numbered : number ≡ number_of (point_of cell)) where
  abbrev p : Point
  p = get_or cells i origin

  abbrev columns : ℕ
  columns = old.settings.width

  abbrev rows : ℕ
  rows = old.settings.height

  abbrev seen : ℕ → Point → Bool
  seen n q = list_any (is_same_cell q) (take n cells)

  same : head.settings ≡ old.settings
  same = ap (λ (h : Head). h.settings) stood.rest

  number_is : number ≡ number_of p
  number_is = numbered ∙ ap number_of is

  on_is : (on : Bool) → on ≡ is_on_board head.settings.width head.settings.height (point_of cell) → on ≡ is_on_board columns rows p
  on_is on e = e ∙ ap (λ (s : Settings). is_on_board s.width s.height (point_of cell)) same ∙ ap (is_on_board columns rows) is

  byte_is : (byte : ℕ) → byte ≡ slice_index plane number → is_on_board columns rows p ≡ true → byte ≡ others p + cond (seen i p) 128 0
  byte_is byte at on = at ∙ ap (slice_index plane) number_is ∙ stood.bytes.bytes p (near_from_on_board columns rows p on)

  next_seen : (q : Point) → seen (i + 1) q ≡ (seen i q || is_same_cell q p)
  next_seen q = ap (list_any (is_same_cell q)) (take_more cells i origin within) ∙ any_push (is_same_cell q) (take i cells) p

  pub one_food : (byte : ℕ) (plane' : List ℕ) (on : Bool) → on ≡ is_on_board head.settings.width head.settings.height (point_of cell) → on ≡ true
      → byte ≡ slice_index plane number → byte < 128 → head.foods < length list → WritesFood 128 number plane plane'
      → StoodFood (i + 1) cells others old (record head { foods = (head.foods + 1) % 65536 }) (set list head.foods number) plane'
  one_food byte plane' on has holds at low fits writes =
      let here : is_on_board columns rows p ≡ true = sym (on_is on has) ∙ holds in
      let near = near_from_on_board columns rows p here in
      let none = bit_says (seen i p) (others p) byte (byte_is byte at here) (few p) low in
      let count = stood.count in
      let both : take i list ++ number ∷ [] ≡ numbers_of (take i cells) ++ number_of p ∷ [] = rw (stood.listed, number_is) refl in
      let long : length (set list head.foods number) ≡ length list = length-set list head.foods number in
      record {
        fit = fit_more columns rows i cells within stood.fit here none;
        listed = ap (λ n. take (i + 1) (set list n number)) count ∙ take_more_set list i number (omega arith) ∙ both
            ∙ sym (map_push number_of (take i cells) p) ∙ ap numbers_of (sym (take_more cells i origin within));
        count = omega arith;
        bytes = same_bytes columns rows (λ q. cond (is_same_cell q p) ((others q + food_byte (take i cells) q) % 128 + 128) (others q + food_byte (take i cells) q))
            (λ q. others q + food_byte (take (i + 1) cells) q) plane'
            (λ q _. elim (cases_Bool (is_same_cell q p)) [
              | inl one ↦
                  let marked_now : seen (i + 1) q ≡ true = next_seen q ∙ ap (λ b. seen i q || b) one ∙ with_true (seen i q) in
                  ap (λ b. cond b ((others q + food_byte (take i cells) q) % 128 + 128) (others q + food_byte (take i cells) q)) one
                  ∙ marked (seen i q) (others q) (few q) ∙ ap (λ b. others q + cond b 128 0) (sym marked_now)
              | inr other ↦
                  let as_before : seen (i + 1) q ≡ seen i q = next_seen q ∙ ap (λ b. seen i q || b) other ∙ with_false (seen i q) in
                  ap (λ b. cond b ((others q + food_byte (take i cells) q) % 128 + 128) (others q + food_byte (take i cells) q)) other
                  ∙ ap (λ b. others q + cond b 128 0) (sym as_before)
            ]) (writes columns rows (λ q. others q + food_byte (take i cells) q) p near number_is stood.bytes);
        rest = ap (λ (h : Head). record h { foods = (head.foods + 1) % 65536 }) stood.rest;
        short = omega arith;
      }

  -- the cell is refused
  pub no_more_food : is_fit_food columns rows cells ≡ true → (is_on_board columns rows p ≡ true) × (seen i p ≡ false) × (i < length list)
  no_more_food fits =
      let next = next_fits columns rows i cells within fits in
      let front = fit_front columns rows (i + 1) cells fits in
      let parts = and_parts (list_all (is_on_board columns rows) (take (i + 1) cells)) (are_distinct_cells (take (i + 1) cells)) front in
      let room = cells_on_board columns rows (take (i + 1) cells) parts.0 parts.1 in
      let long = length-take-le (i + 1) cells (omega arith) in
      (next.0, next.1, omega arith)

  refuses : (list' : List ℕ) → (is_fit_food columns rows cells ≡ true → ⊥) → FoodPlaced old cells others head list' plane false
  refuses list' never = record {
    fits = (λ t. absurd cc, λ fits. absurd (never fits));
    shows = λ t. absurd cc;
    bytes = λ t. absurd cc;
    rest = stood.rest;
  }

  pub not_on : (on : Bool) → on ≡ is_on_board head.settings.width head.settings.height (point_of cell) → on ≡ false → FoodPlaced old cells others head list plane false
  not_on on has off = refuses list (λ fits. let all = no_more_food fits in let there = on_is on has in absurd cc)

  pub already : (byte : ℕ) → byte ≡ slice_index plane number → 128 ≤ byte → FoodPlaced old cells others head list plane false
  already byte at high = refuses list (λ fits.
      let all = no_more_food fits in
      let there = bit_tells (seen i p) (others p) byte (byte_is byte at all.0) (few p) high in
      let none : seen i p ≡ false = all.1 in
      absurd cc)

  pub no_room : length list ≤ head.foods → FoodPlaced old cells others head list plane false
  no_room past = refuses list (λ fits. let all = no_more_food fits in let room = all.2 in let count = stood.count in absurd (omega arith))

pub all_food : (cells : List Cell) (i : ℕ) (head0 : Head) (plane0 : List ℕ) (head : Head) (list plane : List ℕ) → i ≡ length cells → FoodSoFar cells i head0 plane0 head list plane
    → PlacesFood cells head0 plane0 head list plane true
all_food cells i head0 plane0 head list plane end so_far others few none area small has =
    let ps = points_of cells in
    let stood = so_far others few none area small has in
    let n = length-map cells point_of in
    let all : take i ps ≡ ps = take_all i ps (omega arith) in
    let same : i ≡ length ps = omega arith in
    record {
      fits = (λ _. ap (is_fit_food head0.settings.width head0.settings.height) (sym all) ∙ stood.fit, λ _. refl);
      shows = λ _. record { count = stood.count ∙ same; listed = ap (λ k. take k list) (sym same) ∙ stood.listed ∙ ap numbers_of all };
      bytes = λ _. same_bytes head0.settings.width head0.settings.height (λ p. others p + food_byte (take i ps) p) (λ p. others p + food_byte ps p) plane
          (λ p _. ap (λ l. others p + food_byte l p) all) stood.bytes;
      rest = stood.rest;
    }

point_is : (cells : List Cell) (i : ℕ) → i < length cells → point_of (get_or cells i no_cell) ≡ get_or (points_of cells) i origin
point_is cells i within = sym (get_or-map point_of cells i no_cell origin within)

module _ (cells : List Cell) (i : ℕ) (within : i < length cells) (head0 head : Head) (plane0 list plane : List ℕ) (so_far : FoodSoFar cells i head0 plane0 head list plane)
    (number : ℕ) (numbered : number ≡ number_of (point_of (get_or cells i no_cell))) where
  there : i < length (points_of cells)
  there = let n = length-map cells point_of in omega arith

  pub next_food : (index byte : ℕ) (plane' : List ℕ) (on : Bool) → on ≡ is_on_board head.settings.width head.settings.height (point_of (get_or cells i no_cell)) → on ≡ true
      → byte ≡ slice_index plane number → byte < 128 → index ≡ head.foods → index < length list → WritesFood 128 number plane plane'
      → FoodSoFar cells (i + 1) head0 plane0 (record head { foods = (head.foods + 1) % 65536 }) (set list index number) plane'
  next_food index byte plane' on has holds at low is fits writes others few none area small bytes =
      let long : length (set list index number) ≡ length list = length-set list index number in
      let stood = so_far others few none (omega arith) (omega arith) bytes in
      rw is (one_food (points_of cells) i there others few head0 head list plane (omega arith) (omega arith) stood (get_or cells i no_cell) (point_is cells i within) number numbered byte plane'
      on has holds at low (omega arith) writes)

  pub not_on_board : (on : Bool) → on ≡ is_on_board head.settings.width head.settings.height (point_of (get_or cells i no_cell)) → on ≡ false
      → PlacesFood cells head0 plane0 head list plane false
  not_on_board on has off others few none area small bytes =
      not_on (points_of cells) i there others few head0 head list plane area small (so_far others few none area small bytes) (get_or cells i no_cell) (point_is cells i within) number numbered
      on has off

  pub twice : (byte : ℕ) → byte ≡ slice_index plane number → 128 ≤ byte → PlacesFood cells head0 plane0 head list plane false
  twice byte at high others few none area small bytes =
      already (points_of cells) i there others few head0 head list plane area small (so_far others few none area small bytes) (get_or cells i no_cell) (point_is cells i within) number numbered
      byte at high

  pub past_room : (index : ℕ) → index ≡ head.foods → length list ≤ index → PlacesFood cells head0 plane0 head list plane false
  past_room index is past others few none area small bytes =
      no_room (points_of cells) i there others few head0 head list plane area small (so_far others few none area small bytes) (get_or cells i no_cell) (point_is cells i within) number numbered
      (omega arith)

-- the cells that are dropped so far have no food
abbrev pub left_byte : (Point → ℕ) → List Point → ℕ → Point → ℕ
left_byte others cells i q = others q + cond (list_any (is_same_cell q) (take i cells)) 0 (food_byte cells q)

abbrev pub DroppedSoFar : List ℕ → ℕ → List ℕ → List ℕ → Type 0
DroppedSoFar list i old now =
    (width height : ℕ) (others : Point → ℕ) (cells : List Point) → ((p : Point) → others p < 128) → is_fit_food width height cells ≡ true → ShowsFood (length list) list cells
    → HasBytes width height (λ p. others p + food_byte cells p) old → HasBytes width height (left_byte others cells i) now

pub none_dropped : (list plane : List ℕ) → DroppedSoFar list 0 plane plane
none_dropped list plane width height others cells few fits shows has = has

low_bits : (c d : Bool) (n : ℕ) → n < 128 → (n + cond c 0 (cond d 128 0)) % 128 + 0 ≡ n
low_bits true d n few = omega arith
low_bits false true n few = omega arith
low_bits false false n few = omega arith

pub one_dropped : (list : List ℕ) (i : ℕ) (old now new : List ℕ) → i < length list → WritesFood 0 (get_or list i 0) now new → DroppedSoFar list i old now
    → DroppedSoFar list (i + 1) old new
one_dropped list i old now new within writes so_far width height others cells few fits shows has =
    let count = shows.count in
    let inside : i < length cells = omega arith in
    let p = get_or cells i origin in
    let parts = and_parts (list_all (is_on_board width height) cells) (are_distinct_cells cells) fits in
    let on : is_on_board width height p ≡ true = All-get_or (λ q. is_on_board width height q ≡ true) cells i origin inside
    (AllPass-from_list_all (is_on_board width height) cells parts.0) in
    let near = near_from_on_board width height p on in
    let number : get_or list i 0 ≡ number_of p =
    sym (get_or-take (length cells) list i 0 inside) ∙ ap (λ l. get_or l i 0) shows.listed ∙ get_or-map number_of cells i origin 0 inside in
    let seen : (q : Point) → list_any (is_same_cell q) (take (i + 1) cells) ≡ (list_any (is_same_cell q) (take i cells) || is_same_cell q p) =
    λ q. ap (list_any (is_same_cell q)) (take_more cells i origin inside) ∙ any_push (is_same_cell q) (take i cells) p in
    same_bytes width height (λ q. cond (is_same_cell q p) (left_byte others cells i q % 128 + 0) (left_byte others cells i q)) (left_byte others cells (i + 1)) new
    (λ q _. elim (cases_Bool (is_same_cell q p)) [
      | inl same ↦
          let gone : list_any (is_same_cell q) (take (i + 1) cells) ≡ true = seen q ∙ ap (λ b. list_any (is_same_cell q) (take i cells) || b) same ∙ with_true _ in
          let low = low_bits (list_any (is_same_cell q) (take i cells)) (list_any (is_same_cell q) cells) (others q) (few q) in
          let zero_more : others q ≡ others q + 0 = omega arith in
          ap (λ b. cond b (left_byte others cells i q % 128 + 0) (left_byte others cells i q)) same ∙ low ∙ zero_more
          ∙ ap (λ b. others q + cond b 0 (food_byte cells q)) (sym gone)
      | inr other ↦
          let as_before : list_any (is_same_cell q) (take (i + 1) cells) ≡ list_any (is_same_cell q) (take i cells) =
          seen q ∙ ap (λ b. list_any (is_same_cell q) (take i cells) || b) other ∙ with_false _ in
          ap (λ b. cond b (left_byte others cells i q % 128 + 0) (left_byte others cells i q)) other ∙ ap (λ b. others q + cond b 0 (food_byte cells q)) (sym as_before)
    ]) (writes width height (left_byte others cells i) p near number (so_far width height others cells few fits shows has))

none_left : (any : Bool) (n : ℕ) → n + cond any 0 (cond any 128 0) ≡ n
none_left true n = omega arith
none_left false n = omega arith

pub all_dropped : (list : List ℕ) (i : ℕ) (head : Head) (old now : List ℕ) → length list ≤ i → DroppedSoFar list i old now
    → DropsFood list head old (record head { foods = 0 }) now
all_dropped list i head old now end so_far width height others cells few fits shows has =
    let count = shows.count in
    let all : take i cells ≡ cells = take_all i cells (omega arith) in (
      same_bytes width height (left_byte others cells i) others now
          (λ q _. ap (λ l. others q + cond (list_any (is_same_cell q) l) 0 (food_byte cells q)) all ∙ none_left (list_any (is_same_cell q) cells) (others q))
          (so_far width height others cells few fits shows has),
      refl,
    )
