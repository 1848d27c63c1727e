-- The lines so far, then the remaining ones. No long text is left unwritten.
use Rattle.std.proofs.Common.{◌<◌, length}
use Rattle.std.specs.Prelude.{option_copied}
use Rattle.bs_host.specs.declared.limits.TheConstants.{LONG_TEXT}
use Rattle.bs_host.specs.File.{pieces_of}
use Rattle.bs_host.specs.inner.File.{pieces_after}
use Rattle.bs_host.specs.inner.LiveAnswers.{HasAnswers}
use Rattle.bs_host.proofs.CutFile.{bytes_left}
use Rattle.bs_host.proofs.live.answer_lines.Given as goal

abbrev pub invariant-lines : goal.invariant-lines
invariant-lines g l =
    HasAnswers l.fn.answers l.answers (pieces_of l.fn.lines) (pieces_after (option_copied l.left)) (g.W.Write.contents l.fn.output) (g.W.Write.contents l.output)
    × (length l.answers.text.bytes < LONG_TEXT)

abbrev pub decreases-lines : goal.decreases-lines
decreases-lines g l = bytes_left l.left
