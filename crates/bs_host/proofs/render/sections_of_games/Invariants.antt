use Rattle.std.proofs.Common.{◌≡◌, ◌++◌, drop}
use Rattle.std.specs.List.{flat_map}
use Rattle.bs_transcript.specs.Lines.{section_lines_of}
use Rattle.bs_host.specs.inner.Transcript.{lane_lines_of}
use Rattle.bs_host.proofs.render.sections_of_games.Given as goal

-- the sections so far, then the remaining ones
abbrev pub invariant-loop-game : goal.invariant-loop-game
invariant-loop-game l =
    flat_map section_lines_of l.sections.items ++ flat_map lane_lines_of (drop l.game l.core.games.lanes) ≡ flat_map lane_lines_of l.core.games.lanes
