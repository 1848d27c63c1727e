use Rattle.std.proofs.Common.{◌≡◌, drop}
use Rattle.bs_board.specs.commands.Orders.{given_to}
use Rattle.bs_board.specs.inner.Packed.{packed}
use Rattle.bs_board.proofs.commands.moves.Moves.direction_for.Given as goal

-- the later entries decide
abbrev pub invariant-loop-turn : goal.invariant-loop-turn
invariant-loop-turn l = (l.left ≡ packed (drop l._turn l.self)) × (given_to (drop l._turn l.self) l.id ≡ given_to l.self l.id)
