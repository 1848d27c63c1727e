-- What private contracts add to specs/Transcript.
use Rattle.std.specs.Prelude.{ℕ, List, ◌++◌}
use Rattle.std.specs.List.{flat_map}
use Rattle.bs_json.specs.declared.line.Stray.{Stray}
use Rattle.bs_sched.specs.Core.{CoreView}
use Rattle.bs_sched.specs.Lane.{Lane}
use Rattle.bs_transcript.specs.Lines.{reply_lines_of, last_line_of, stray_lines_of}

-- The transcript from a core.
abbrev pub lane_lines_of : Lane → List ℕ
lane_lines_of x = reply_lines_of x.row.game x.replies ++ last_line_of x.row.game x.game

-- the section of each stay, then the strays
abbrev pub core_text_of : CoreView → List (ℕ × Stray) → List ℕ
core_text_of core strays = flat_map lane_lines_of core.games.lanes ++ stray_lines_of strays
