use Rattle.std.proofs.Common.{◌≡◌, ◌++◌, drop, true}
use Rattle.bs_board.specs.commands.Orders.{moves_in}
use Rattle.bs_json.specs.inner.Compact.{are_plain_moves}
use Rattle.bs_json.proofs.ordered_moves.packed.Given as goal

abbrev pub invariant-loop-id : goal.invariant-loop-id
invariant-loop-id l = (l.moves ++ moves_in (drop l.id-index l.entries) ≡ moves_in l.entries) × (are_plain_moves (moves_in (drop l.id-index l.entries)) ≡ true)
