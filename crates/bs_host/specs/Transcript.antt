-- The transcript of a command file.
use Rattle.std.specs.Prelude.{ℕ, List, ◌++◌}
use Rattle.std.specs.List.{enumerate_from, flat_map}
use Rattle.bs_board.specs.declared.commands.command.Command.{Command}
use Rattle.bs_board.specs.plans.Plan.{GameRow}
use Rattle.bs_game.specs.Alone.{Course, alone}
use Rattle.bs_transcript.specs.Lines.{reply_lines_of, last_line_of, stray_lines_of}
use Rattle.bs_host.specs.Routing.{commands_of, stays_of, strays_of}

abbrev pub course_lines_of : List ℕ → Course → List ℕ
course_lines_of name course = reply_lines_of name course.replies ++ last_line_of name course.game

-- one game's part of a transcript: its replies, numbered within the game, and its final line
unfoldable pub section_of : GameRow → List Command → List ℕ
section_of row commands = course_lines_of row.game (alone row commands)

-- the transcript of a file that is served with `blocks` blocks: the section of each stay, in the
-- order of their rows, then the strays
unfoldable pub transcript_of : ℕ → List ℕ → List ℕ
transcript_of blocks file =
    flat_map (λ stay. section_of stay.1 (commands_of blocks file stay.0)) (enumerate_from 0 (stays_of blocks file))
    ++ stray_lines_of (strays_of blocks file)
