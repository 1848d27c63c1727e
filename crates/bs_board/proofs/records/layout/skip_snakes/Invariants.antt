use Rattle.std.proofs.Common.{◌≡◌, ◌≤◌, List, drop, length}
use Rattle.std.specs.Prelude.{flat_map}
use Rattle.bs_board.specs.declared.boards.snake.Snake.{Snake}
use Rattle.bs_board.specs.records.Record.{snake_record}
use Rattle.bs_board.proofs.records.layout.skip_snakes.Given as goal

-- the records of the others
abbrev pub invariant-loop : goal.invariant-loop
invariant-loop l = (snakes : List Snake) → l.bytes ≡ flat_map snake_record snakes → l.count ≤ length snakes → l.left ≡ flat_map snake_record (drop l.counter snakes)
