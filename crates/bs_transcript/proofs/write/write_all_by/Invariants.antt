use Rattle.std.proofs.Common.{◌≤◌, ◌-◌, length, take}
use Rattle.std.specs.Io.KnownBytes.{Appends}
use Rattle.bs_transcript.proofs.write.write_all_by.Given as goal

-- the writer took the bytes before `written`
abbrev pub invariant-writes : goal.invariant-writes
invariant-writes g l = (l.written ≤ length l.text) × Appends (g.W.Write.contents l.fn.output) (g.W.Write.contents l.output) (take l.written l.text)

abbrev pub decreases-writes : goal.decreases-writes
decreases-writes g l = length l.text - l.written
