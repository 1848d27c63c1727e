use Rattle.std.proofs.Common.{◌≡◌, ◌++◌, not}
use Rattle.std.specs.List.{filter}
use Rattle.bs_food.specs.Free.{row_of_cells}
use Rattle.bs_food.specs.Marks.{is_marked}
use Rattle.bs_food.proofs.free.push_row.Given as goal

-- the columns done so far
abbrev pub invariant-loop-column : goal.invariant-loop-column
invariant-loop-column l =
    l.free.items ≡ l.initial.free.items ++ filter (λ p. not (is_marked l.width l.taken p)) (row_of_cells l.column l.row)
