use Rattle.std.proofs.Common.{take}
use Rattle.bs_food.specs.Marks.{MarksCells}
use Rattle.bs_food.proofs.marks.mark_all.Given as goal

-- the cells marked so far
abbrev pub invariant-loop-cell : goal.invariant-loop-cell
invariant-loop-cell l = MarksCells l.width l.height (take l.cell-index l.cells) l.initial.marks l.marks
