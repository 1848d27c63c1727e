-- New food on a free cell, in the list and on the plane.
use Rattle.std.proofs.Common.{◌≡◌, ℕ, ◌+◌, ◌*◌, ◌%◌, ◌<◌, ◌≤◌, Bool, true, false, not, ◌&&◌, ◌||◌, cond, List, [], ◌∷◌, ◌++◌, length, take, set, get_or, refl, sym, ap, ◌∙◌, arith, inl, inr, eqb, length-set}
use Rattle.std.specs.List.{list_all, list_any, sum_by}
use Rattle.std.proofs.lemmas.Bool.{cases_Bool, cases_eq, eqb-true, not-true}
use Rattle.std.proofs.lemmas.List.{length_push, map_push, take_more_set}
use Rattle.std.proofs.lemmas.List.Elements.{filter_agree}
use Rattle.std.proofs.lemmas.List.Folds.{list_all-append, sum_by-zero}
use Rattle.std.proofs.lemmas.List.Sums.{AllPass-from_list_all}
use Rattle.std.proofs.lemmas.Nat.{mod_below, mul-le}
use Rattle.std.proofs.Math.Bool.{or-false, or-true}
use Rattle.bs_board.specs.declared.boards.board.Board.{Board}
use Rattle.bs_board.specs.declared.boards.point.Point.{Point}
use Rattle.bs_board.specs.declared.boards.snake.Snake.{Snake}
use Rattle.bs_board.specs.boards.Cell.{are_distinct_cells, is_on_board, is_same_cell, origin}
use Rattle.bs_board.specs.boards.Legal.{is_near}
use Rattle.bs_board.specs.boards.Over.{is_living}
use Rattle.bs_board.proofs.Chains.{and_both}
use Rattle.bs_board.proofs.boards.CellsOnBoard.{cells_on_board}
use Rattle.bs_food.specs.Free.{all_cells, free_cells, is_free_cell, stands_on}
use Rattle.bs_food.specs.Spawning.{cell_by_word, with_new_food, with_one_food}
use Rattle.bs_food.proofs.NewFood.{distinct_and_last, free_are_free, free_on_board}
use Rattle.bs_rules.proofs.CollisionTest.{same_cell}
use Rattle.bs_rules.proofs.Movable.{near_from_on_board}
use Rattle.bs_batch.specs.declared.layout.Head.{Head}
use Rattle.bs_batch.specs.declared.layout.Settings.{Settings}
use Rattle.bs_batch.specs.Counts.{HasBytes, WritesFood}
use Rattle.bs_batch.specs.Food.{CanSpawn, HasSpawned}
use Rattle.bs_batch.specs.Numbers.{number_of, numbers_of}
use Rattle.bs_batch.specs.Shown.{HasRoom, ShowsFood, ShowsSeats, byte_of, occupants, parts_on}
use Rattle.bs_batch.specs.inner.FreeCells.{CountsFree, FindsFree, clear_cells, is_clear}
use Rattle.bs_batch.proofs.Bytes.{same_bytes}
use Rattle.bs_batch.proofs.FoodGone.{any_push}

none_of_both : (a b : Bool) → (not a && not b) ≡ not (a || b)
none_of_both true b = refl
none_of_both false b = refl

-- a sum is zero where no element passes the test
none_passes : {X : Type 0} (f : X → ℕ) (test : X → Bool) → ((x : X) → eqb (f x) 0 ≡ not (test x)) → (xs : List X)
    → list_all (λ x. eqb (f x) 0) xs ≡ not (list_any test xs)
none_passes f test each [] = refl
none_passes f test each (x ∷ xs) = rw (each x, none_passes f test each xs) (none_of_both (test x) (list_any test xs))

no_sum : {X : Type 0} (f : X → ℕ) (test : X → Bool) → ((x : X) → eqb (f x) 0 ≡ not (test x)) → (xs : List X)
    → eqb (sum_by f xs) 0 ≡ not (list_any test xs)
no_sum f test each xs = sum_by-zero f xs ∙ none_passes f test each xs

one_or_none : (b : Bool) → eqb (cond {A = ℕ} b 1 0) 0 ≡ not b
one_or_none true = refl
one_or_none false = refl

no_parts : (p : Point) (s : Snake) → eqb (parts_on p s) 0 ≡ not (stands_on p s)
no_parts p s = elim (cases_Bool (is_living s)) [
  | inl alive ↦ rw alive (no_sum (λ q. cond {A = ℕ} (is_same_cell p q) 1 0) (is_same_cell p) (λ q. one_or_none (is_same_cell p q)) s.body)
  | inr dead ↦ rw dead refl
]

above_zero : (n : ℕ) → 0 < n → eqb n 0 ≡ false
above_zero n some = elim (cases_Bool (eqb n 0)) [
  | inl same ↦ let none = eqb-true n 0 same in absurd (omega arith)
  | inr other ↦ other
]

both_zero : (n : ℕ) (there clear : Bool) → eqb n 0 ≡ clear → eqb (n + cond there 128 0) 0 ≡ (not there && clear)
both_zero n true clear e = above_zero (n + 128) (omega arith)
both_zero n false clear e = let same : n + 0 ≡ n = omega arith in rw same e

-- the byte of a cell is zero where food may appear
pub clear_is_free : (b : Board) (p : Point) → is_clear (byte_of b.food b.snakes) p ≡ is_free_cell b p
clear_is_free b p =
    both_zero (occupants b.snakes p) (list_any (is_same_cell p) b.food) (not (list_any (stands_on p) b.snakes))
    (no_sum (parts_on p) (stands_on p) (no_parts p) b.snakes)

pub clear_are_free : (b : Board) → clear_cells (byte_of b.food b.snakes) b.width b.height ≡ free_cells b
unfolding free_cells
clear_are_free b =
    filter_agree (is_clear (byte_of b.food b.snakes)) (is_free_cell b) (clear_is_free b) (all_cells b.width b.height)

-- where no cell is free
pub stays_full : (word : ℕ) (b : Board) → length (free_cells b) ≡ 0 → with_one_food word b ≡ b
unfolding with_one_food
stays_full word b none = rw none refl

pub new_food_is : (word : ℕ) (b : Board) → 0 < length (free_cells b) → with_one_food word b ≡ with_new_food b (cell_by_word word (free_cells b))
unfolding with_one_food
new_food_is word b some = rw (above_zero (length (free_cells b)) some) refl

module _ (word : ℕ) (b : Board) (some : 0 < length (free_cells b)) where
  abbrev p : Point
  p = cell_by_word word (free_cells b)

  place : word % length (free_cells b) < length (free_cells b)
  place = mod_below word (length (free_cells b)) some

  on : is_on_board b.width b.height p ≡ true
  on = AllPass-from_list_all (is_on_board b.width b.height) (free_cells b) (free_on_board b) (word % length (free_cells b)) _ place

  is_free : is_free_cell b p ≡ true
  is_free = AllPass-from_list_all (is_free_cell b) (free_cells b) (free_are_free b) (word % length (free_cells b)) _ place

  near : is_near b.width b.height p ≡ true
  near = near_from_on_board b.width b.height p on

  module _ (list : List ℕ) (can : CanSpawn list b) where
    fits_more : (list_all (is_on_board b.width b.height) (b.food ++ p ∷ []) ≡ true) × (are_distinct_cells (b.food ++ p ∷ []) ≡ true)
    fits_more =
        let parts : (list_all (is_on_board b.width b.height) b.food ≡ true) × (are_distinct_cells b.food ≡ true) = and_both _ _ can.fits in
        let apart : (not (list_any (is_same_cell p) b.food) ≡ true) × (not (list_any (stands_on p) b.snakes) ≡ true) = and_both _ _ is_free in
        let all : list_all (is_on_board b.width b.height) (b.food ++ p ∷ []) ≡ true = rw (list_all-append, parts.0, on) refl in
        (all, distinct_and_last b.food p parts.1 (not-true _ apart.0))

    pub room_for_one : length b.food < length list
    room_for_one =
        let count = length_push b.food p in
        let few = cells_on_board b.width b.height (b.food ++ p ∷ []) fits_more.0 fits_more.1 in
        let room = can.room in
        omega arith

    pub few_food : b.width ≤ 25 → length b.food < 625
    few_food narrow =
        let count = length_push b.food p in
        let few = cells_on_board b.width b.height (b.food ++ p ∷ []) fits_more.0 fits_more.1 in
        let places : b.width * b.height ≤ 25 * 25 = mul-le b.width b.height 25 25 narrow can.low in
        omega arith

    pub can_more : CanSpawn list (with_new_food b p)
    can_more =
        let fits : (list_all (is_on_board b.width b.height) (b.food ++ p ∷ []) && are_distinct_cells (b.food ++ p ∷ [])) ≡ true =
        rw (fits_more.0, fits_more.1) refl in
        record { low = can.low; room = can.room; fits = fits }

  -- its byte is zero
  zero_at : byte_of b.food b.snakes p ≡ 0
  zero_at = eqb-true (byte_of b.food b.snakes p) 0 (clear_is_free b p ∙ is_free)

  byte_with_food : (q : Point) → cond (is_same_cell q p) (byte_of b.food b.snakes q % 128 + 128) (byte_of b.food b.snakes q) ≡ byte_of (b.food ++ p ∷ []) b.snakes q
  byte_with_food q = elim (cases_Bool (is_same_cell q p)) [
    | inl same ↦
        let e : q ≡ p = (same_cell q p).0 same in
        let itself : is_same_cell p p ≡ true = (same_cell p p).1 refl in
        let there : list_any (is_same_cell p) (b.food ++ p ∷ []) ≡ true = any_push (is_same_cell p) b.food p ∙ ap (λ t. list_any (is_same_cell p) b.food || t) itself ∙ or-true _ in
        let nobody_there : occupants b.snakes p ≡ 0 = let all = zero_at in omega arith in
        rw (e, itself, zero_at, there, nobody_there) refl
    | inr other ↦
        let same : list_any (is_same_cell q) (b.food ++ p ∷ []) ≡ list_any (is_same_cell q) b.food =
        any_push (is_same_cell q) b.food p ∙ ap (λ t. list_any (is_same_cell q) b.food || t) other ∙ or-false _ in
        rw (other, same) refl
  ]

  pub places : (head : Head) (list plane plane' bodies : List ℕ) (cell count foods : ℕ) → ShowsSeats head plane bodies b → ShowsFood head.foods list b.food → HasRoom 0 b
      → CanSpawn list b → cell ≡ number_of p → count ≡ length b.food → foods ≡ (head.foods + 1) % 65536 → WritesFood 128 cell plane plane'
      → HasSpawned (with_new_food b p) list (record head { foods = foods }) (set list count cell) plane' bodies
  places head list plane plane' bodies cell count foods shows listed room can is at more writes =
      let fits = room_for_one list can in
      let few = few_food list can room.narrow in
      let before = listed.count in
      let long = length_push b.food p in
      let both : take count list ++ cell ∷ [] ≡ numbers_of b.food ++ number_of p ∷ [] = rw (at, listed.listed, is) refl in
      let next : length (b.food ++ p ∷ []) ≡ count + 1 = omega arith in
      record {
        seats = record {
          settings = record {
            mode = shows.settings.mode;
            width = shows.settings.width;
            height = shows.settings.height;
            seats = shows.settings.seats;
            min_food = shows.settings.min_food;
            chance = shows.settings.chance;
          };
          turn = shows.turn;
          eight = shows.eight;
          snakes = shows.snakes;
          counts = same_bytes b.width b.height (λ q. cond (is_same_cell q p) (byte_of b.food b.snakes q % 128 + 128) (byte_of b.food b.snakes q))
              (byte_of (b.food ++ p ∷ []) b.snakes) plane' (λ q _. byte_with_food q)
              (writes b.width b.height (byte_of b.food b.snakes) p near is shows.counts);
        };
        list = record {
          count = omega arith;
          listed = ap (λ n. take n (set list count cell)) next ∙ take_more_set list count cell (omega arith) ∙ both ∙ sym (map_push number_of b.food p);
        };
        long = length-set list count cell;
      }

pub can_stay : (word : ℕ) (b : Board) (list : List ℕ) → CanSpawn list b → CanSpawn list (with_one_food word b)
can_stay word b list can = elim (cases_eq (length (free_cells b)) 0) [
  | inl none ↦ rw (stays_full word b none) can
  | inr other ↦ let some : 0 < length (free_cells b) = omega arith in rw (new_food_is word b some) (can_more word b some list can)
]

pub room_stays : (word : ℕ) (b : Board) → HasRoom 0 b → HasRoom 0 (with_one_food word b)
room_stays word b room = elim (cases_eq (length (free_cells b)) 0) [
  | inl none ↦ rw (stays_full word b none) room
  | inr other ↦
      let some : 0 < length (free_cells b) = omega arith in
      rw (new_food_is word b some) (record { narrow = room.narrow; early = room.early; bodies = room.bodies; few = room.few })
]

module _ (s : Settings) (plane : List ℕ) (b : Board) (wide : s.width ≡ b.width) (high : s.height ≡ b.height)
    (has : HasBytes b.width b.height (byte_of b.food b.snakes) plane) where
  same_bytes_of : HasBytes s.width s.height (byte_of b.food b.snakes) plane
  same_bytes_of = rw (wide, high) has

  same_cells : clear_cells (byte_of b.food b.snakes) s.width s.height ≡ free_cells b
  same_cells =
      ap (λ w. clear_cells (byte_of b.food b.snakes) w s.height) wide ∙ ap (λ h. clear_cells (byte_of b.food b.snakes) b.width h) high ∙ clear_are_free b

  pub free_count : (free : ℕ) → CountsFree s plane free → free ≡ length (free_cells b)
  free_count free counts = counts (byte_of b.food b.snakes) same_bytes_of ∙ ap length same_cells

  pub free_number : (word free cell : ℕ) → free ≡ length (free_cells b) → 0 < free → FindsFree s plane (word % free) cell
      → cell ≡ number_of (cell_by_word word (free_cells b))
  free_number word free cell count some finds =
      let below : word % free < free = mod_below word free some in
      let all = ap length same_cells in
      finds (byte_of b.food b.snakes) same_bytes_of (omega arith) ∙ ap (λ cells. number_of (get_or cells (word % free) origin)) same_cells
      ∙ ap (λ n. number_of (get_or (free_cells b) (word % n) origin)) count
