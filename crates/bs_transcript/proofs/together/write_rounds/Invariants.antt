use Rattle.std.proofs.Common.{List, ℕ, Option, ◌-◌, length, drop}
use Rattle.bs_transcript.specs.inner.Buffer.{IsOnItsWay}
use Rattle.bs_transcript.proofs.together.write_rounds.Given as goal

-- the lines so far are on their way
abbrev pub invariant-rounds : goal.invariant-rounds
invariant-rounds g l =
    (first : Option (List ℕ)) (text : List ℕ) → IsOnItsWay first (g.W.Write.contents l.fn.output) l.fn.writing.buffer text (drop l.fn.writing.at.number g.L.Lines.lines)
    → IsOnItsWay first (g.W.Write.contents l.output) l.writing.buffer text (drop l.writing.at.number g.L.Lines.lines)

abbrev pub decreases-rounds : goal.decreases-rounds
decreases-rounds g l = length g.L.Lines.lines - l.writing.at.number
