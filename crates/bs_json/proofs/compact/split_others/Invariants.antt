use Rattle.std.proofs.Common.{true}
use Rattle.bs_board.specs.commands.Orders.{moves_in}
use Rattle.bs_json.specs.inner.Compact.{ReadMoves}
use Rattle.bs_json.proofs.compact.split_others.Given as goal

-- the text before the remaining part is that of the moves found
abbrev pub invariant-loop-turn : goal.invariant-loop-turn
invariant-loop-turn l = ReadMoves l.fn.line (moves_in l.moves.items) l.left true
