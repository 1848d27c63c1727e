use Rattle.std.proofs.Common.{◌≡◌, drop}
use Rattle.bs_board.specs.boards.Cell.{is_same_cell}
use Rattle.bs_board.specs.Distinct.{are_distinct}
use Rattle.bs_board.proofs.commands.starts.has_distinct_cells.Given as goal

-- the remaining entries decide
abbrev pub invariant-loop-seat : goal.invariant-loop-seat
invariant-loop-seat l = are_distinct (λ s t. is_same_cell s.1 t.1) (drop l.seat l.starts) ≡ are_distinct (λ s t. is_same_cell s.1 t.1) l.starts
