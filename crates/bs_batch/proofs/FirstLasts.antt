-- The board of a new game is lasting.
use Rattle.std.proofs.Common.{◌≡◌, ℕ, ◌+◌, ◌-◌, ◌≤◌, cond, [], ◌∷◌, get_or, count_by, arith}
use Rattle.std.proofs.lemmas.List.{get_or-map, length-map}
use Rattle.std.proofs.lemmas.List.Sums.{sum_by-cons, sum_by-le-sum_by}
use Rattle.bs_board.specs.declared.boards.point.Point.{Point}
use Rattle.bs_board.specs.boards.Cell.{is_same_cell, origin}
use Rattle.bs_food.specs.Free.{all_cells}
use Rattle.bs_modes.specs.FirstBoard.{first_board, first_snake}
use Rattle.bs_modes.proofs.FirstLegal.{first_board_is_legal}
use Rattle.bs_batch.specs.Lasting.{FirstLaw, crossings, parts_before_last}
use Rattle.bs_batch.proofs.CellOnce.{once_in_all}
use Rattle.bs_batch.proofs.Repeated.{one_at_most}

three_parts : (width height : ℕ) (c : Point) → crossings width height (c ∷ c ∷ c ∷ []) ≤ 1
three_parts width height c =
    let cells = all_cells width height in
    let f : Point → ℕ = λ p. cond (is_same_cell p c) 1 0 in
    let few = sum_by-le-sum_by (λ p. parts_before_last p (c ∷ c ∷ c ∷ []) - 1) f cells
    (λ p.
    let one : count_by (is_same_cell p) (c ∷ []) ≡ f p + 0 = sum_by-cons (λ r. cond {A = ℕ} (is_same_cell p r) 1 0) c [] in
    let two : count_by (is_same_cell p) (c ∷ c ∷ []) ≡ f p + count_by (is_same_cell p) (c ∷ []) = sum_by-cons (λ r. cond {A = ℕ} (is_same_cell p r) 1 0) c (c ∷ []) in
    let most = one_at_most (is_same_cell p c) in
    omega arith) in
    let once = once_in_all c width height in
    omega arith

pub first_lasts : FirstLaw
unfolding first_board
first_lasts s fits = record {
  legal = first_board_is_legal s fits;
  bodies = λ k d within.
      let n = length-map s.snakes first_snake in
      rw (get_or-map first_snake s.snakes k ([], origin) d (omega arith)) (λ _. three_parts s.width s.height (get_or s.snakes k ([], origin)).1);
}
