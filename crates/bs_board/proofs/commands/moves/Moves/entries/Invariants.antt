use Rattle.std.proofs.Common.{◌≡◌, ◌++◌, drop}
use Rattle.bs_board.specs.commands.Orders.{moves_in}
use Rattle.bs_board.specs.inner.Packed.{packed}
use Rattle.bs_board.proofs.commands.moves.Moves.entries.Given as goal

-- the entries so far, and those that are left
abbrev pub invariant-loop-turn : goal.invariant-loop-turn
invariant-loop-turn l = (l.left ≡ packed (drop l._turn l.self)) × (moves_in l.entries.items ++ drop l._turn l.self ≡ l.self)
