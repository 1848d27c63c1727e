-- New food on a free cell, on the plane and in bytes.
use Rattle.std.proofs.Common.{◌≡◌, ℕ, ◌+◌, ◌-◌, ◌*◌, ◌%◌, ◌<◌, ◌≤◌, Bool, true, false, not, ◌&&◌, ◌||◌, cond, List, [], ◌∷◌, ◌++◌, length, take, map, get_or, refl, sym, ap, ◌∙◌, arith, inl, inr, eqb, ltb, count_by}
use Rattle.std.specs.List.{filter, list_all, list_any, sum_by}
use Rattle.std.proofs.lemmas.Bool.{cases_Bool, eqb-true, lt-ltb, ltb-true}
use Rattle.std.proofs.lemmas.List.{get_or_default}
use Rattle.std.proofs.lemmas.List.Elements.{filter_agree}
use Rattle.std.proofs.lemmas.List.Folds.{list_any-append, sum_by-zero}
use Rattle.std.proofs.lemmas.Nat.{mod_below, same_from_place}
use Rattle.std.proofs.Math.Bool.{or-false, or-true}
use Rattle.bs_board.specs.declared.boards.board.Board.{Board}
use Rattle.bs_board.specs.declared.boards.point.Point.{Point}
use Rattle.bs_board.specs.declared.boards.snake.Snake.{Snake}
use Rattle.bs_board.specs.boards.Cell.{is_same_cell, origin}
use Rattle.bs_board.specs.boards.Over.{is_living}
use Rattle.bs_board.specs.records.Layout.{cells_of}
use Rattle.bs_food.specs.Free.{all_cells, free_cells, is_free_cell, point_at, stands_on}
use Rattle.bs_food.specs.Spawning.{cell_by_word, spawned, with_food_by_chance, with_new_food, with_one_food}
use Rattle.bs_food.proofs.Minimum.{one_word_more}
use Rattle.bs_plane.specs.declared.cell.Cell.{Cell}
use Rattle.bs_plane.specs.declared.plane.Plane.{Plane}
use Rattle.bs_plane.specs.Plane.{Changes, HasCells, Shows, ShowsBoard, contents, is_free, parts_on, with_food}
use Rattle.bs_plane.specs.Food.{HasFood}
use Rattle.bs_plane.specs.inner.Food.{AddsFood, FindsFree, IsFreeOf, PutsFood, with_food_by}
use Rattle.bs_plane.proofs.FreeCells.{at_place, cell_at, cells_are, free_counted, free_found}
use Rattle.bs_plane.proofs.KeptFood.{food_more}
use Rattle.bs_plane.proofs.Places.{same_cells}

none_of_both : (a b : Bool) → (not a && not b) ≡ not (a || b)
none_of_both true b = refl
none_of_both false b = refl

-- a sum is zero where no element passes the test
none_passes : {X : Type 0} (f : X → ℕ) (test : X → Bool) → ((x : X) → eqb (f x) 0 ≡ not (test x)) → (xs : List X)
    → list_all (λ x. eqb (f x) 0) xs ≡ not (list_any test xs)
none_passes f test each [] = refl
none_passes f test each (x ∷ xs) = rw (each x, none_passes f test each xs) (none_of_both (test x) (list_any test xs))

no_sum : {X : Type 0} (f : X → ℕ) (test : X → Bool) → ((x : X) → eqb (f x) 0 ≡ not (test x)) → (xs : List X)
    → eqb (sum_by f xs) 0 ≡ not (list_any test xs)
no_sum f test each xs = sum_by-zero f xs ∙ none_passes f test each xs

one_or_none : (b : Bool) → eqb (cond {A = ℕ} b 1 0) 0 ≡ not b
one_or_none true = refl
one_or_none false = refl

no_parts : (p : Point) (s : Snake) → eqb (parts_on p s) 0 ≡ not (stands_on p s)
no_parts p s = elim (cases_Bool (is_living s)) [
  | inl alive ↦ rw alive (no_sum (λ q. cond {A = ℕ} (is_same_cell p q) 1 0) (is_same_cell p) (λ q. one_or_none (is_same_cell p q)) s.body)
  | inr dead ↦ rw dead refl
]

either_order : (a b : Bool) → (a && b) ≡ (b && a)
either_order true true = refl
either_order true false = refl
either_order false true = refl
either_order false false = refl

above_zero : (n : ℕ) → 0 < n → eqb n 0 ≡ false
above_zero n some = elim (cases_Bool (eqb n 0)) [
  | inl same ↦ let none = eqb-true n 0 same in absurd (omega arith)
  | inr other ↦ other
]

abbrev pub on_board : Board → Point → Cell
on_board b = contents b.food (cells_of b.hazards) b.snakes

pub free_is_free : (b : Board) (p : Point) → is_free (on_board b p) ≡ is_free_cell b p
free_is_free b p =
    ap (λ t. t && not (list_any (is_same_cell p) b.food)) (no_sum (parts_on p) (stands_on p) (no_parts p) b.snakes)
    ∙ either_order (not (list_any (stands_on p) b.snakes)) (not (list_any (is_same_cell p) b.food))

free_are : (b : Board) → filter (λ p. is_free (on_board b p)) (all_cells b.width b.height) ≡ free_cells b
unfolding free_cells
free_are b = filter_agree (λ p. is_free (on_board b p)) (is_free_cell b) (free_is_free b) (all_cells b.width b.height)

-- where no cell is free
stays_full : (word : ℕ) (b : Board) → length (free_cells b) ≡ 0 → with_one_food word b ≡ b
unfolding with_one_food
stays_full word b none = rw none refl

new_food_is : (word : ℕ) (b : Board) → 0 < length (free_cells b) → with_one_food word b ≡ with_new_food b (cell_by_word word (free_cells b))
unfolding with_one_food
new_food_is word b some = rw (above_zero (length (free_cells b)) some) refl

shown_cells : (b : Board) (plane : Plane) → ShowsBoard b plane → HasCells b.width b.height (on_board b) plane.cells.items
shown_cells b plane shows = let w = shows.width in let h = shows.height in rw (← w, ← h) shows.cells

module _ (b : Board) (plane : Plane) (shows : ShowsBoard b plane) where
  cells_shown : plane.cells.items ≡ map (on_board b) (all_cells b.width b.height)
  cells_shown = cells_are b.width b.height (on_board b) plane.cells.items (shown_cells b plane shows)

  free_count : (free : ℕ) → free ≡ count_by is_free plane.cells.items → free ≡ length (free_cells b)
  free_count free is =
      is ∙ ap (count_by is_free) cells_shown ∙ free_counted (on_board b) (all_cells b.width b.height) ∙ ap length (free_are b)

  -- no free cell
  pub places_none : (word free : ℕ) (list : List ℕ) → free ≡ count_by is_free plane.cells.items → free ≡ 0 → HasFood b plane list
      → HasFood (with_one_food word b) plane list
  places_none word free list is none has = rw (stays_full word b (sym (free_count free is) ∙ none)) has

  -- the free cell that the word selects
  pub places_one : (word free place : ℕ) (list list' : List ℕ) (plane' : Plane) → free ≡ count_by is_free plane.cells.items → (free ≡ 0 → ⊥) → HasFood b plane list
      → FindsFree plane.cells.items (word % free) place → PutsFood place plane list plane' list' → HasFood (with_one_food word b) plane' list'
  places_one word free place list list' plane' is some has finds puts =
      let count = free_count free is in
      let below : word % free < free = mod_below word free (omega arith) in
      let found : IsFreeOf plane.cells.items (word % free) place = finds (rw (← is) below) in
      let cells = shown_cells b plane shows in
      let room = cells.room in
      let within = found.within in
      let inside : place < b.width * b.height = rw room at within in
      let at = at_place b.width b.height place inside in
      let mapped : IsFreeOf (map (on_board b) (all_cells b.width b.height)) (word % free) place = rw cells_shown at found in
      let cell : get_or (free_cells b) (word % length (free_cells b)) origin ≡ point_at at.x at.y =
      ap (λ n. get_or (free_cells b) (word % n) origin) (sym count) ∙ ap (λ l. get_or l (word % free) origin) (sym (free_are b))
      ∙ free_found (on_board b) (all_cells b.width b.height) (word % free) place origin mapped
      ∙ ap (λ i. get_or (all_cells b.width b.height) i origin) (sym at.is) ∙ cell_at b.width b.height at.x at.y origin at.wide at.high in
      let new : with_one_food word b ≡ with_new_food b (point_at at.x at.y) = new_food_is word b (omega arith) ∙ ap (with_new_food b) cell in
      rw new (puts b at.x at.y has at.wide at.high at.is)

pub any_more : {X : Type 0} (f : X → Bool) (xs : List X) (x : X) → list_any f (xs ++ x ∷ []) ≡ (list_any f xs || f x)
any_more f xs x = list_any-append f xs (x ∷ []) ∙ ap (λ t. list_any f xs || t) (or-false (f x))

food_there : (foods hazards : List Point) (snakes : List Snake) (cell p : Point)
    → with_food cell true (contents foods hazards snakes) p ≡ contents (foods ++ cell ∷ []) hazards snakes p
food_there foods hazards snakes cell p = elim (cases_Bool (is_same_cell p cell)) [
  | inl same ↦ rw (any_more (is_same_cell p) foods cell, same, or-true (list_any (is_same_cell p) foods)) refl
  | inr other ↦ rw (any_more (is_same_cell p) foods cell, other, or-false (list_any (is_same_cell p) foods)) refl
]

-- food on a cell by its column and its row
pub puts_food : (place x y : ℕ) (plane plane' : Plane) (list list' : List ℕ) → x < plane.width → y * plane.width + x ≡ place
    → list' ≡ list ++ x ∷ y ∷ [] → Changes (with_food (point_at x y) true) plane plane' → PutsFood place plane list plane' list'
puts_food place x y plane plane' list list' wide at is changes b x' y' has wide' high' at' =
    let shows = has.shows in
    let width = shows.width in
    let inside : x < b.width = rw (← width) wide in
    let first : y * b.width + x ≡ place = ap (λ w. y * w + x) (sym width) ∙ at in
    let both = same_from_place y x y' x' b.width inside wide' (first ∙ sym at') in
    let cell : point_at x y ≡ point_at x' y' = ap (λ n. point_at n y) both.1 ∙ ap (λ n. point_at x' n) both.0 in
    let all : Shows (contents (b.food ++ point_at x y ∷ []) (cells_of b.hazards) b.snakes) plane' =
    same_cells plane'.width plane'.height _ _ plane'.cells.items (food_there b.food (cells_of b.hazards) b.snakes (point_at x y)) (changes.cells (on_board b) shows.cells) in
    let done : HasFood (with_new_food b (point_at x y)) plane' list' = record {
      shows = record { width = changes.width ∙ shows.width; height = changes.height ∙ shows.height; cells = all };
      written = is ∙ ap (λ t. t ++ x ∷ y ∷ []) has.written ∙ sym (food_more b.food x y);
    } in
    rw (← cell) done

-- ---- several words

pub one_food_more : (words : List ℕ) (i word : ℕ) (plane0 plane plane' : Plane) (list0 list list' : List ℕ) → i < length words → word ≡ get_or words i 0
    → AddsFood (with_food_by (take i words)) plane0 list0 plane list → AddsFood (with_one_food word) plane list plane' list'
    → AddsFood (with_food_by (take (i + 1) words)) plane0 list0 plane' list'
one_food_more words i word plane0 plane plane' list0 list list' within is so_far step b has =
    let now = with_food_by (take i words) b in
    let next = step now (so_far b has) in
    let e : with_one_food word now ≡ with_food_by (take (i + 1) words) b =
    one_word_more b now (with_one_food word now) words i word within (is ∙ get_or_default words i 0 word within) refl refl in
    rw e at next

not_below : (a b : ℕ) → b ≤ a → ltb a b ≡ false
not_below a b high = elim (cases_Bool (ltb a b)) [
  | inl low ↦ let wrong = ltb-true a b low in absurd (omega arith)
  | inr other ↦ other
]

pub spawned_missing : (words : List ℕ) (b : Board) → length b.food < b.min_food → spawned words b ≡ with_food_by (take (b.min_food - length b.food) words) b
unfolding spawned
spawned_missing words b few = rw (lt-ltb (length b.food) b.min_food few) refl

pub spawned_by_chance : (words : List ℕ) (b : Board) → b.min_food ≤ length b.food → spawned words b ≡ with_food_by_chance words b
unfolding spawned
spawned_by_chance words b enough = rw (not_below (length b.food) b.min_food enough) refl

pub too_few_words : (words : List ℕ) (b : Board) → length words < 2 → with_food_by_chance words b ≡ b
too_few_words [] b few = refl
too_few_words (first ∷ []) b few = refl
too_few_words (first ∷ second ∷ rest) b few = absurd (omega arith)

pub chance_met : (words : List ℕ) (b : Board) → 2 ≤ length words → get_or words 0 0 % 100 < b.chance
    → with_food_by_chance words b ≡ with_one_food (get_or words 1 0) b
chance_met [] b many met = absurd (omega arith)
chance_met (first ∷ []) b many met = absurd (omega arith)
chance_met (first ∷ second ∷ rest) b many met = rw (lt-ltb (first % 100) b.chance met) refl

pub chance_not_met : (words : List ℕ) (b : Board) → 2 ≤ length words → b.chance ≤ get_or words 0 0 % 100 → with_food_by_chance words b ≡ b
chance_not_met [] b many met = absurd (omega arith)
chance_not_met (first ∷ []) b many met = absurd (omega arith)
chance_not_met (first ∷ second ∷ rest) b many met = rw (not_below (first % 100) b.chance met) refl
