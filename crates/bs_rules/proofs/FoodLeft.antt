-- Food that is left fits the board as before.
use Rattle.std.proofs.Common.{◌≡◌, ℕ, Bool, true, List, [], ◌∷◌, length, refl, arith}
use Rattle.std.specs.List.{list_all, filter}
use Rattle.std.proofs.lemmas.Bool.{and_parts, and_from}
use Rattle.bs_board.specs.declared.boards.point.Point.{Point}
use Rattle.bs_board.specs.declared.boards.board.Mode.{Mode}
use Rattle.bs_board.specs.declared.boards.board.Mode.TheVariants.{Standard, Solo, Constrictor, Wrapped}
use Rattle.bs_board.specs.boards.Cell.{is_same_cell, is_on_board, are_distinct_cells}
use Rattle.bs_board.specs.boards.Legal.{IsFreeOfFood}
use Rattle.bs_board.specs.commands.Setup.{is_fit_food}
use Rattle.bs_board.proofs.Distinct.{all_of_filter, distinct_of_filter}

pub fit_food_left : (p : Point → Bool) (w h : ℕ) (food : List Point) → is_fit_food w h food ≡ true → is_fit_food w h (filter p food) ≡ true
fit_food_left p w h food fits =
    let parts = and_parts (list_all (is_on_board w h) food) (are_distinct_cells food) fits in
    and_from (list_all (is_on_board w h) (filter p food)) (are_distinct_cells (filter p food))
    (all_of_filter p (is_on_board w h) food parts.0) (distinct_of_filter is_same_cell p food parts.1)

none_left : (p : Point → Bool) (food : List Point) → length food ≡ 0 → length (filter p food) ≡ 0
none_left p [] h = refl
none_left p (x ∷ xs) h = absurd (omega arith)

pub free_of_food_left : (p : Point → Bool) (mode : Mode) (food : List Point) → IsFreeOfFood mode food → IsFreeOfFood mode (filter p food)
free_of_food_left p Standard food h = tt
free_of_food_left p Solo food h = tt
free_of_food_left p Constrictor food h = none_left p food h
free_of_food_left p Wrapped food h = tt
