-- New food is on the board and on no other food, and nothing else changes.
use Rattle.std.proofs.Common.{◌≡◌, ℕ, zero, suc, ◌+◌, ◌-◌, ◌%◌, ◌<◌, ◌≤◌, Bool, true, false, not, ◌||◌, List, [], ◌∷◌, ◌++◌, length, take, refl, ap, sym, subst, ◌∙◌, arith, pos, inl, inr}
use Rattle.std.specs.Prelude.{int_le, int_lt, nat_lt, ◌==◌}
use Rattle.std.specs.Ordering.{int_eq}
use Rattle.std.specs.List.{flat_map, list_any, list_all, range_with_len}
use Rattle.std.proofs.lemmas.Bool.{cases_Bool, lt-ltb, le-leb, not-true}
use Rattle.std.proofs.lemmas.Bool.Decides.{Decides-int_eq, Decides-like, same_from_decides}
use Rattle.std.proofs.lemmas.List.Folds.{list_all-append, list_any-append}
use Rattle.std.proofs.lemmas.List.FromFn.{map-range_with_len_more}
use Rattle.std.proofs.lemmas.List.Sums.{AllPass-from_list_all}
use Rattle.std.proofs.Math.Bool.{or-false}
use Rattle.std.proofs.lemmas.Nat.{mod_below}
use Rattle.bs_board.specs.declared.boards.point.Point.{Point}
use Rattle.bs_board.specs.declared.boards.board.Board.{Board}
use Rattle.bs_board.specs.boards.Cell.{is_same_cell, is_on_board, are_distinct_cells}
use Rattle.bs_board.specs.commands.Setup.{is_fit_food}
use Rattle.bs_food.specs.Free.{point_at, row_of_cells, all_cells, free_cells, is_free_cell, stands_on}
use Rattle.bs_food.specs.Spawning.{cell_by_word, with_one_food, with_food_by_chance, spawned}
use Rattle.bs_food.proofs.Minimum.{after_words}
use Rattle.bs_food.proofs.Rows.{flat_range_more}
use Rattle.bs_board.proofs.Chains.{and_both}
use Rattle.bs_board.proofs.Distinct.{all_of_filter, filter_passes}

point_on_board : (width height x y : ℕ) → x < width → y < height → is_on_board width height (point_at x y) ≡ true
point_on_board width height x y wide high =
    let zero_x : int_le (pos 0) (pos x) ≡ true = le-leb 0 x (omega arith) in
    let zero_y : int_le (pos 0) (pos y) ≡ true = le-leb 0 y (omega arith) in
    let low : int_lt (pos x) (pos width) ≡ true = lt-ltb x width wide in
    let top : int_lt (pos y) (pos height) ≡ true = lt-ltb y height high in
    rw (zero_x, zero_y, low, top) refl

row_on_board : (width height y : ℕ) → y < height → (x : ℕ) → x ≤ width → list_all (is_on_board width height) (row_of_cells x y) ≡ true
row_on_board width height y high zero within = refl
row_on_board width height y high (suc x) within =
    let next : x + 1 ≡ suc x = omega arith in
    let P : ℕ → Type 0 = λ n. list_all (is_on_board width height) (row_of_cells n y) ≡ true in
    let before = row_on_board width height y high x (omega arith) in
    let here = point_on_board width height x y (omega arith) high in
    subst P next (rw (map-range_with_len_more (λ k. point_at k y) 0 x x (omega arith), list_all-append, before, here) refl)

rows_on_board : (width height : ℕ) (y : ℕ) → y ≤ height
    → list_all (is_on_board width height) (flat_map (row_of_cells width) (range_with_len 0 y)) ≡ true
rows_on_board width height zero within = refl
rows_on_board width height (suc y) within =
    let before = rows_on_board width height y (omega arith) in
    let here = row_on_board width height y (omega arith) width (omega arith) in
    rw (flat_range_more (row_of_cells width) y, list_all-append, before, here) refl

pub free_on_board : (b : Board) → list_all (is_on_board b.width b.height) (free_cells b) ≡ true
unfolding free_cells
free_on_board b = all_of_filter (is_free_cell b) (is_on_board b.width b.height) (all_cells b.width b.height) (rows_on_board b.width b.height b.height (omega arith))

pub free_are_free : (b : Board) → list_all (is_free_cell b) (free_cells b) ≡ true
unfolding free_cells
free_are_free b = filter_passes (is_free_cell b) (all_cells b.width b.height)

same_cell_turned : (p q : Point) → is_same_cell p q ≡ is_same_cell q p
same_cell_turned p q =
    let x = same_from_decides (int_eq p.x q.x) (int_eq q.x p.x) (Decides-int_eq p.x q.x) (Decides-like _ sym sym (Decides-int_eq q.x p.x)) in
    let y = same_from_decides (int_eq p.y q.y) (int_eq q.y p.y) (Decides-int_eq p.y q.y) (Decides-like _ sym sym (Decides-int_eq q.y p.y)) in
    rw (x, y) refl

or_both : (a b : Bool) → (a || b) ≡ false → (a ≡ false) × (b ≡ false)
or_both false b h = (refl, h)
or_both true b h = let wrong : true ≡ false = h in cc

-- a cell that differs from all earlier ones is appended
pub distinct_and_last : (xs : List Point) (c : Point) → are_distinct_cells xs ≡ true → list_any (is_same_cell c) xs ≡ false
    → are_distinct_cells (xs ++ c ∷ []) ≡ true
distinct_and_last [] c distinct none = refl
distinct_and_last (x ∷ xs) c distinct none =
    let parts : (not (list_any (is_same_cell x) xs) ≡ true) × (are_distinct_cells xs ≡ true) = and_both _ _ distinct in
    let apart : (is_same_cell c x ≡ false) × (list_any (is_same_cell c) xs ≡ false) = or_both _ _ none in
    let other : is_same_cell x c ≡ false = same_cell_turned x c ∙ apart.0 in
    rw (list_any-append (is_same_cell x) xs (c ∷ []), other, or-false (list_any (is_same_cell x) xs), parts.0)
    (distinct_and_last xs c parts.1 apart.1)

-- the board is the same but for its food, which still fits
pub record Refed (b c : Board) : Type 0 where
  pub only : c ≡ record b { food = c.food }
  pub fits : is_fit_food b.width b.height b.food ≡ true → is_fit_food b.width b.height c.food ≡ true

pub refed_self : (b : Board) → Refed b b
refed_self b = record { only = refl; fits = λ h. h }

pub refed_then : (b c d : Board) → Refed b c → Refed c d → Refed b d
refed_then b c d first second =
    let width : c.width ≡ b.width = ap (λ (t : Board). t.width) first.only in
    let height : c.height ≡ b.height = ap (λ (t : Board). t.height) first.only in
    record {
      only = second.only ∙ ap (λ (t : Board). record t { food = d.food }) first.only;
      fits = λ h. rw (← width, ← height) (second.fits (rw (width, height) (first.fits h)));
    }

positive : (n : ℕ) → (n == 0) ≡ false → 0 < n
positive zero other = let wrong : true ≡ false = other in cc
positive (suc n) other = omega arith

chosen_fits : (b : Board) (word : ℕ) → (length (free_cells b) == 0) ≡ false → is_fit_food b.width b.height b.food ≡ true
    → is_fit_food b.width b.height (b.food ++ cell_by_word word (free_cells b) ∷ []) ≡ true
chosen_fits b word some fits =
    let free : List Point = free_cells b in
    let many : 0 < length free = positive (length free) some in
    let place : word % length free < length free = mod_below word (length free) many in
    let on : is_on_board b.width b.height (cell_by_word word free) ≡ true =
    AllPass-from_list_all (is_on_board b.width b.height) free (free_on_board b) (word % length free) _ place in
    let clear : is_free_cell b (cell_by_word word free) ≡ true = AllPass-from_list_all (is_free_cell b) free (free_are_free b) (word % length free) _ place in
    let apart : (not (list_any (is_same_cell (cell_by_word word free)) b.food) ≡ true) × (not (list_any (stands_on (cell_by_word word free)) b.snakes) ≡ true) =
    and_both _ _ clear in
    let parts : (list_all (is_on_board b.width b.height) b.food ≡ true) × (are_distinct_cells b.food ≡ true) = and_both _ _ fits in
    rw (list_all-append, parts.0, on) (distinct_and_last b.food (cell_by_word word free) parts.1 (not-true _ apart.0))

placed_refed : (word : ℕ) (b : Board) → Refed b (with_one_food word b)
unfolding with_one_food
placed_refed word b =
    elim (cases_Bool (length (free_cells b) == 0)) [
      | inl none ↦ rw none (refed_self b)
      | inr some ↦ rw some (record { only = refl; fits = chosen_fits b word some })
    ]

words_refed : (words : List ℕ) (b : Board) → Refed b (after_words b words)
words_refed [] b = refed_self b
words_refed (word ∷ words) b = refed_then b (with_one_food word b) _ (placed_refed word b) (words_refed words (with_one_food word b))

by_chance_refed : (words : List ℕ) (b : Board) → Refed b (with_food_by_chance words b)
by_chance_refed [] b = refed_self b
by_chance_refed (first ∷ []) b = refed_self b
by_chance_refed (first ∷ second ∷ rest) b =
    elim (cases_Bool (nat_lt (first % 100) b.chance)) [
      | inl lucky ↦ rw lucky (placed_refed second b)
      | inr other ↦ rw other (refed_self b)
    ]

pub spawned_refed : (words : List ℕ) (b : Board) → Refed b (spawned words b)
unfolding spawned
spawned_refed words b =
    elim (cases_Bool (nat_lt (length b.food) b.min_food)) [
      | inl short ↦ rw short (words_refed (take (b.min_food - length b.food) words) b)
      | inr enough ↦ rw enough (by_chance_refed words b)
    ]
