use Rattle.std.proofs.Common.{take}
use Rattle.std.specs.List.{flat_map}
use Rattle.bs_transcript.specs.inner.Buffer.{AreBounded}
use Rattle.bs_transcript.specs.inner.Parts.{lines_of_section}
use Rattle.bs_transcript.proofs.bounds.bound_sections.Given as goal

-- the lines of the sections so far are bounded
abbrev pub invariant-loop-section : goal.invariant-loop-section
invariant-loop-section l = AreBounded l.bounds (flat_map lines_of_section (take l.section-index l.sections))
