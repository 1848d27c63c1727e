use Rattle.std.proofs.Common.{List, ℕ, ◌++◌, take}
use Rattle.bs_transcript.specs.inner.Buffer.{AreBounded}
use Rattle.bs_transcript.specs.inner.Parts.{lines_of_part}
use Rattle.bs_transcript.proofs.bounds.bound_part.Given as goal

-- the lines so far are bounded
abbrev pub invariant-loop-index : goal.invariant-loop-index
invariant-loop-index l =
    (before : List (List ℕ)) → AreBounded l.fn.bounds before → AreBounded l.bounds (before ++ take l.index (lines_of_part l.part))
