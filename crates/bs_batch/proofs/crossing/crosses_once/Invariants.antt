use Rattle.std.proofs.Common.{◌≡◌, ℕ, ◌≤◌, All, take, true}
use Rattle.bs_board.specs.boards.Cell.{is_on_board}
use Rattle.bs_food.specs.Free.{all_cells}
use Rattle.bs_batch.proofs.CrossingCounts.{above}
use Rattle.bs_batch.proofs.crossing.crosses_once.Given as goal

-- the crossings of the parts so far
abbrev pub invariant-loop-part : goal.invariant-loop-part
invariant-loop-part l = record {
  few : l.crossings ≤ l.part;
  count : (width height : ℕ) → All (λ p. is_on_board width height p ≡ true) l.body → l.crossings ≡ above (all_cells width height) (take l.part l.body);
}
