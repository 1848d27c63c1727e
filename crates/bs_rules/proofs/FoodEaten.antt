-- The food that is left after feeding, by what lies on a cell.
use Rattle.std.proofs.Common.{◌≡◌, ◌∙◌, Bool, true, false, not, ◌&&◌, List, [], ◌∷◌, refl, sym, ap, inl, inr, Contains, Decides}
use Rattle.std.specs.List.{Any, filter, list_any}
use Rattle.std.proofs.lemmas.Bool.{cases_Bool}
use Rattle.std.proofs.lemmas.Bool.Decides.{Decides-and, Decides-not}
use Rattle.std.proofs.lemmas.List.Folds.{Any-from_list_any, list_any-from_Any}
use Rattle.bs_board.specs.declared.boards.board.Board.{Board}
use Rattle.bs_board.specs.declared.boards.point.Point.{Point}
use Rattle.bs_board.specs.declared.boards.snake.Snake.{Snake}
use Rattle.bs_board.specs.boards.Cell.{head_of, is_same_cell}
use Rattle.bs_board.specs.boards.Over.{is_living}
use Rattle.bs_rules.specs.Feeding.{has_head_on, food_left, fed, IsUnderHead, LeavesFood}
use Rattle.bs_rules.proofs.CollisionTest.{itself, same_cell, has_cell}

and_false : (b : Bool) → (b && false) ≡ false
and_false true = refl
and_false false = refl

-- a cell is left where it was there and passes the test
is_left : (q : Point → Bool) (c : Point) (cells : List Point) → list_any (is_same_cell c) (filter q cells) ≡ (list_any (is_same_cell c) cells && q c)
is_left q c [] = refl
is_left q c (x ∷ xs) =
    elim (cases_Bool (is_same_cell c x)) [
      | inl same ↦ let e : c ≡ x = (same_cell c x).0 same in
          elim (cases_Bool (q c)) [
            | inl stays ↦ rw (ap q (sym e) ∙ stays, same, stays) refl
            | inr goes ↦ rw (ap q (sym e) ∙ goes, same, goes) (is_left q c xs ∙ (ap (λ b. list_any (is_same_cell c) xs && b) goes ∙ and_false _))
          ]
      | inr other ↦ elim (cases_Bool (q x)) [
        | inl stays ↦ rw (stays, other) (is_left q c xs)
        | inr goes ↦ rw (goes, other) (is_left q c xs)
      ]
    ]

on_head : (cell : Point) (s : Snake) → Decides (has_head_on cell s) ((is_living s ≡ true) × (head_of s.body ≡ cell))
on_head cell s = Decides-and (is_living s) (is_same_cell (head_of s.body) cell) (itself (is_living s)) (same_cell (head_of s.body) cell)

under_head : (snakes : List Snake) (cell : Point) → Decides (list_any (has_head_on cell) snakes) (IsUnderHead snakes cell)
under_head snakes cell = (
  λ e. let a = Any-from_list_any (has_head_on cell) snakes e in (a.0, a.1, a.2, a.3, (on_head cell a.1).0 a.4),
  λ a. list_any-from_Any (has_head_on cell) snakes (a.0, a.1, a.2, a.3, (on_head cell a.1).1 a.4),
)

pub fed_leaves_food : (b : Board) → LeavesFood b (fed b)
fed_leaves_food b cell =
    let head = list_any (has_head_on cell) b.snakes in
    let there = list_any (is_same_cell cell) b.food in
    let both = Decides-and there (not head) (has_cell b.food cell) (Decides-not head (under_head b.snakes cell)) in
    let left = has_cell (food_left b.snakes b.food) cell in
    let e = is_left (λ c. not (list_any (has_head_on c) b.snakes)) cell b.food in
    (λ h. both.0 (sym e ∙ left.1 h), λ h. left.0 (e ∙ both.1 h))
