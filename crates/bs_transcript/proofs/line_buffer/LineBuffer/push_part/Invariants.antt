use Rattle.std.proofs.Common.{List, ℕ, Option, ◌++◌, drop}
use Rattle.bs_transcript.specs.inner.Buffer.{IsOnItsWay}
use Rattle.bs_transcript.specs.inner.Parts.{lines_of_part}
use Rattle.bs_transcript.proofs.line_buffer.LineBuffer.push_part.Given as goal

-- the lines so far are on their way
abbrev pub invariant-loop-index : goal.invariant-loop-index
invariant-loop-index g l =
    (first : Option (List ℕ)) (text : List ℕ) (left : List (List ℕ)) → IsOnItsWay first (g.W.Write.contents l.fn.output) l.fn.self text (lines_of_part l.part ++ left)
    → IsOnItsWay first (g.W.Write.contents l.output) l.self text (drop l.index (lines_of_part l.part) ++ left)
