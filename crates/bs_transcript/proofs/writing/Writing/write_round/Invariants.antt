use Rattle.std.proofs.Common.{List, ℕ, Option, drop}
use Rattle.bs_transcript.specs.inner.Buffer.{IsOnItsWay}
use Rattle.bs_transcript.proofs.writing.Writing.write_round.Given as goal

-- the lines so far are on their way
abbrev pub invariant-loop-lines : goal.invariant-loop-lines
invariant-loop-lines g l =
    (first : Option (List ℕ)) (text : List ℕ) → IsOnItsWay first (g.W.Write.contents l.fn.output) l.fn.self.buffer text (drop l.fn.self.at.number g.L.Lines.lines)
    → IsOnItsWay first (g.W.Write.contents l.output) l.self.buffer text (drop l.self.at.number g.L.Lines.lines)
