use Rattle.std.proofs.Common.{take}
use Rattle.bs_food.specs.Marks.{MarksSnakes}
use Rattle.bs_food.proofs.marks.mark_snakes.Given as goal

-- the snakes marked so far
abbrev pub invariant-loop-snake : goal.invariant-loop-snake
invariant-loop-snake l = MarksSnakes l.width l.height (take l.snake-index l.snakes) l.initial.marks l.marks
