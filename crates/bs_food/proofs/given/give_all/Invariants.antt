use Rattle.std.proofs.Common.{◌≡◌, take}
use Rattle.bs_food.specs.Given.{all_given}
use Rattle.bs_food.proofs.given.give_all.Given as goal

-- the board after the cells so far
abbrev pub invariant-loop-cell : goal.invariant-loop-cell
invariant-loop-cell l = l.board ≡ all_given (take l.cell-index l.cells) l.fn.board
