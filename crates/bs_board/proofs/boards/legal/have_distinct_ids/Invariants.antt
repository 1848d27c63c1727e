use Rattle.std.proofs.Common.{◌≡◌, drop}
use Rattle.bs_board.specs.boards.Legal.{are_distinct_ids}
use Rattle.bs_board.proofs.boards.legal.have_distinct_ids.Given as goal

-- the remaining entries decide
abbrev pub invariant-loop-seat : goal.invariant-loop-seat
invariant-loop-seat l = are_distinct_ids (drop l.seat l.snakes) ≡ are_distinct_ids l.snakes
