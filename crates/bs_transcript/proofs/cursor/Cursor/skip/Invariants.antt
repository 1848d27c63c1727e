use Rattle.std.proofs.Common.{◌-◌, ◌≤◌}
use Rattle.bs_transcript.proofs.cursor.Cursor.skip.Given as goal

-- no line behind `end` is passed
abbrev pub invariant-lines : goal.invariant-lines
invariant-lines g l = (l.fn.self.number ≤ l.self.number) × (l.fn.self.number ≤ l.end → l.self.number ≤ l.end)

abbrev pub decreases-lines : goal.decreases-lines
decreases-lines g l = l.end - l.self.number
