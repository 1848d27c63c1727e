-- The chunks so far, then the text that is left.
use Rattle.std.proofs.Common.{◌≡◌, ◌++◌, length}
use Rattle.bs_host.specs.File.{pieces_of}
use Rattle.bs_host.specs.inner.Parsed.{pieces_in}
use Rattle.bs_host.proofs.parse.cut_text.Given as goal

abbrev pub invariant-loop-left : goal.invariant-loop-left
invariant-loop-left l = pieces_in l.chunks.items ++ pieces_of l.left ≡ pieces_of l.fn.text

abbrev pub decreases-loop-left : goal.decreases-loop-left
decreases-loop-left l = length l.left
