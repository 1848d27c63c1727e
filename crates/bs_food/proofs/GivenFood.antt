-- Food that a move gives, cell by cell. It is on the board and on no other food, and nothing else
-- changes.
use Rattle.std.proofs.Common.{◌≡◌, ℕ, ◌+◌, ◌<◌, true, not, List, [], ◌∷◌, ◌++◌, length, take, get_or, fold, refl, sym, inl, inr, Option, Some, None}
use Rattle.std.specs.List.{list_any, list_all}
use Rattle.std.proofs.lemmas.Bool.{cases_Bool, not-true}
use Rattle.std.proofs.lemmas.List.Folds.{list_all-append}
use Rattle.std.proofs.lemmas.List.Sums.{fold_more}
use Rattle.bs_board.specs.declared.boards.board.Board.{Board}
use Rattle.bs_board.specs.declared.boards.point.Point.{Point}
use Rattle.bs_board.specs.boards.Cell.{origin, is_same_cell, is_on_board, are_distinct_cells}
use Rattle.bs_board.specs.commands.Setup.{is_fit_food}
use Rattle.bs_food.specs.Free.{is_free_cell, stands_on}
use Rattle.bs_food.specs.Given.{all_given, given, is_open, with_given_food}
use Rattle.bs_board.proofs.Chains.{and_both}
use Rattle.bs_food.proofs.NewFood.{Refed, refed_self, refed_then, distinct_and_last}

-- no cell has been looked at
pub none_given : (b : Board) → b ≡ all_given [] b
unfolding all_given
none_given b = refl

pub one_given_more : (b now next : Board) (cells : List Point) (i : ℕ) → i < length cells
    → now ≡ all_given (take i cells) b → next ≡ with_given_food now (get_or cells i origin) → next ≡ all_given (take (i + 1) cells) b
unfolding all_given
one_given_more b now next cells i within so_far step =
    let more : all_given (take (i + 1) cells) b ≡ with_given_food (all_given (take i cells) b) (get_or cells i origin) =
    fold_more with_given_food b cells i origin within in
    rw (step, so_far) (sym more)

open_fits : (b : Board) (cell : Point) → is_open b cell ≡ true → is_fit_food b.width b.height b.food ≡ true
    → is_fit_food b.width b.height (b.food ++ cell ∷ []) ≡ true
open_fits b cell fit fits =
    let here : (is_on_board b.width b.height cell ≡ true) × (is_free_cell b cell ≡ true) = and_both _ _ fit in
    let apart : (not (list_any (is_same_cell cell) b.food) ≡ true) × (not (list_any (stands_on cell) b.snakes) ≡ true) = and_both _ _ here.1 in
    let parts : (list_all (is_on_board b.width b.height) b.food ≡ true) × (are_distinct_cells b.food ≡ true) = and_both _ _ fits in
    let on = here.0 in
    rw (list_all-append, parts.0, on) (distinct_and_last b.food cell parts.1 (not-true _ apart.0))

one_refed : (b : Board) (cell : Point) → Refed b (with_given_food b cell)
unfolding with_given_food
one_refed b cell =
    elim (cases_Bool (is_open b cell)) [
      | inl fit ↦ rw fit (record { only = refl; fits = open_fits b cell fit })
      | inr taken ↦ rw taken (refed_self b)
    ]

cells_refed : (cells : List Point) (b : Board) → Refed b (fold with_given_food b cells)
cells_refed [] b = refed_self b
cells_refed (cell ∷ cells) b = refed_then b (with_given_food b cell) _ (one_refed b cell) (cells_refed cells (with_given_food b cell))

pub given_refed : (cells : Option (List Point)) (b : Board) → Refed b (given cells b)
unfolding all_given
given_refed None b = refed_self b
given_refed (Some cells) b = cells_refed cells b
