use Rattle.std.proofs.Common.{◌≡◌, drop}
use Rattle.bs_board.specs.boards.Cell.{is_same_cell}
use Rattle.bs_board.specs.Distinct.{are_distinct}
use Rattle.bs_board.proofs.boards.area.are_distinct_cells.Given as goal

-- the remaining entries decide
abbrev pub invariant-loop-index : goal.invariant-loop-index
invariant-loop-index l = are_distinct is_same_cell (drop l.index l.cells) ≡ are_distinct is_same_cell l.cells
