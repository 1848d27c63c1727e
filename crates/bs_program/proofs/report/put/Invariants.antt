use Rattle.std.proofs.Common.{◌≡◌, ◌≤◌, ◌-◌, true, length, take}
use Rattle.std.specs.Io.KnownBytes.{Appends}
use Rattle.bs_program.specs.Streams.{held_by}
use Rattle.bs_program.proofs.report.put.Given as goal

-- the writer took the bytes before `written`, and a failure before stays noted
abbrev pub invariant-writes : goal.invariant-writes
invariant-writes g l =
    (l.written ≤ length l.text) × Appends (held_by g.E.Write.contents l.fn.errors) (held_by g.E.Write.contents l.errors) (take l.written l.text)
    × (l.fn.errors.has_failed ≡ true → l.errors.has_failed ≡ true)

abbrev pub decreases-writes : goal.decreases-writes
decreases-writes g l = length l.text - l.written
