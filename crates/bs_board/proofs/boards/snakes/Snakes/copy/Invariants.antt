use Rattle.std.proofs.Common.{◌≡◌, take}
use Rattle.bs_board.proofs.boards.snakes.Snakes.copy.Given as goal

-- the seats copied so far
abbrev pub invariant-loop-snake : goal.invariant-loop-snake
invariant-loop-snake l = l.seats.items ≡ take l.snake-index l.snake-items
