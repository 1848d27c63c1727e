use Rattle.std.proofs.Common.{◌≡◌, ◌≤◌, List, count_by, take}
use Rattle.bs_board.specs.declared.boards.snake.Snake.{Snake}
use Rattle.bs_board.specs.boards.Over.{is_living}
use Rattle.bs_batch.specs.Living.{ShowsCauses}
use Rattle.bs_batch.proofs.seats.count_living.Given as goal

-- the living snakes of the seats so far
abbrev pub invariant-loop-seat : goal.invariant-loop-seat
invariant-loop-seat l = record {
  few : l.living ≤ l.seat;
  count : (snakes : List Snake) → ShowsCauses l.head snakes → l.living ≡ count_by is_living (take l.seat snakes);
}
