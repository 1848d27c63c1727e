use Rattle.std.proofs.Common.{◌≡◌, length, take}
use Rattle.std.specs.Prelude.{sum_by}
use Rattle.bs_board.specs.records.Record.{snake_record}
use Rattle.bs_board.proofs.records.sizes.snakes_size.Given as goal

-- the seats added so far
abbrev pub invariant-loop-snake : goal.invariant-loop-snake
invariant-loop-snake l = l.total ≡ sum_by (λ snake. length (snake_record snake)) (take l.snake-index l.snakes)
