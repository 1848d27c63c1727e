use Rattle.std.proofs.Common.{◌≡◌, ◌+◌, ◌∷◌, drop}
use Rattle.bs_board.specs.declared.boards.point.Direction.TheVariants.{Up}
use Rattle.bs_board.specs.commands.Orders.{is_ascending}
use Rattle.bs_board.specs.inner.Packed.{packed}
use Rattle.bs_board.proofs.commands.moves.Moves.is_ascending.Given as goal

-- the later entries decide, with the last id so far
abbrev pub invariant-loop-turn : goal.invariant-loop-turn
invariant-loop-turn l =
    (l.left ≡ packed (drop (l._turn + 1) l.self)) × (is_ascending ((l.before, Up) ∷ drop (l._turn + 1) l.self) ≡ is_ascending l.self)
