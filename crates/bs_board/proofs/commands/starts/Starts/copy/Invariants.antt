use Rattle.std.proofs.Common.{◌≡◌, take}
use Rattle.bs_board.proofs.commands.starts.Starts.copy.Given as goal

-- the starts copied so far
abbrev pub invariant-loop-id : goal.invariant-loop-id
invariant-loop-id l = l.starts.items ≡ take l.id-index l.id-items
