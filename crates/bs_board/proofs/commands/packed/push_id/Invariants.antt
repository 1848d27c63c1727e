use Rattle.std.proofs.Common.{◌≡◌, ◌++◌, take}
use Rattle.bs_board.proofs.commands.packed.push_id.Given as goal

-- the bytes added so far, for which there was room
abbrev pub invariant-loop-byte : goal.invariant-loop-byte
invariant-loop-byte l = (l.bytes.items ≡ l.fn.bytes.items ++ take l.byte-index l.id) × (l.bytes.capacity ≡ l.fn.bytes.capacity)
