use Rattle.std.proofs.Common.{◌≡◌, ◌++◌}
use Rattle.std.specs.Prelude.{option_copied}
use Rattle.bs_host.specs.File.{pieces_of}
use Rattle.bs_host.specs.inner.File.{pieces_after}
use Rattle.bs_host.specs.inner.Parsed.{parsed_lines}
use Rattle.bs_host.proofs.ParsedLines.{bytes_left}
use Rattle.bs_host.proofs.parse.parse_share.Given as goal

-- the lines so far, then the remaining ones
abbrev pub invariant-lines : goal.invariant-lines
invariant-lines l = l.lines.items ++ parsed_lines l.version (pieces_after (option_copied l.left)) ≡ parsed_lines l.version (pieces_of l.fn.text)

abbrev pub decreases-lines : goal.decreases-lines
decreases-lines l = bytes_left l.left
