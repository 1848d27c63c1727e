use Rattle.std.proofs.Common.{take}
use Rattle.std.specs.List.{flat_map}
use Rattle.bs_board.specs.records.Record.{snake_record}
use Rattle.bs_board.specs.inner.Writing.{Puts}
use Rattle.bs_board.proofs.records.encoding.put_snakes.Given as goal

-- the seats written so far
abbrev pub invariant-loop-snake : goal.invariant-loop-snake
invariant-loop-snake l = Puts l.at (flat_map snake_record (take l.snake-index l.snakes)) l.fn.into l.into l.next
