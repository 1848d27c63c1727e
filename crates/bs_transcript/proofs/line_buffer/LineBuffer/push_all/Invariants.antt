use Rattle.std.proofs.Common.{List, ℕ, Option, drop}
use Rattle.bs_transcript.specs.inner.Buffer.{IsOnItsWay}
use Rattle.bs_transcript.specs.inner.Parts.{all_lines_of}
use Rattle.bs_transcript.proofs.line_buffer.LineBuffer.push_all.Given as goal

-- the lines of the sections so far are on their way
abbrev pub invariant-loop-section : goal.invariant-loop-section
invariant-loop-section g l =
    (first : Option (List ℕ)) (text : List ℕ) → IsOnItsWay first (g.W.Write.contents l.fn.output) l.fn.self text (all_lines_of l.sections l.strays)
    → IsOnItsWay first (g.W.Write.contents l.output) l.self text (all_lines_of (drop l.section-index l.sections) l.strays)
