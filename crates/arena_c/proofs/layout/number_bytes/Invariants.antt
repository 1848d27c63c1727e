use Rattle.std.proofs.Common.{◌≡◌, ℕ, ◌%◌, ◌<◌, get_or}
use Rattle.arena_c.proofs.layout.number_bytes.Given as goal

-- the bytes so far have their numbers
abbrev pub invariant-loop-index : goal.invariant-loop-index
invariant-loop-index l = (k : ℕ) → k < l.index → get_or l.cells k 0 ≡ k % 251
