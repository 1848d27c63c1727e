use Rattle.std.proofs.Common.{◌≡◌, ◌+◌, List, take, drop, length}
use Rattle.std.specs.Prelude.{count_by, flat_map}
use Rattle.bs_board.specs.declared.boards.snake.Snake.{Snake}
use Rattle.bs_board.specs.boards.Over.{is_living}
use Rattle.bs_board.specs.records.Record.{snake_record}
use Rattle.bs_board.proofs.records.layout.live_at_most.Given as goal

-- those that lived so far, and the records of the others
abbrev pub invariant-loop : goal.invariant-loop
invariant-loop l =
    (snakes : List Snake) → length snakes ≡ l.count → l.bytes ≡ flat_map snake_record snakes
    → (l.spare + count_by is_living (take l.counter snakes) ≡ l.most) × (l.left ≡ flat_map snake_record (drop l.counter snakes))
