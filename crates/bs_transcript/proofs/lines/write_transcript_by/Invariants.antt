use Rattle.bs_transcript.specs.inner.Parts.{all_lines_of}
use Rattle.bs_transcript.proofs.lines.write_transcript_by.Given as goal

-- the lines are those of this call
abbrev pub ghosts-write_together : goal.ghosts-write_together
ghosts-write_together g a = record { lines = all_lines_of a.source.sections.now a.source.strays.now }
