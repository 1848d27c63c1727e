-- The reading of one line of a command file after the first.
use Rattle.std.specs.Prelude.{ℕ, codes, length, List, Bool, false, ◌||◌, ◌&&◌, ◌==◌, Option, Some, None, is_some, nat_lt, if◌then◌else◌}
use Rattle.std.specs.List.{list_all}
use Rattle.serde_json.specs.Data.{Data}
use Rattle.serde_json.specs.Find.{as_object}
use Rattle.bs_board.specs.declared.commands.command.Command.{Command}
use Rattle.bs_board.specs.declared.plans.version.Version.{Version}
use Rattle.bs_board.specs.plans.Plan.{GameRow}
use Rattle.bs_board.specs.plans.Version.{has_stays}
use Rattle.bs_board.specs.Texts.{is_same_text}
use Rattle.bs_json.specs.declared.limits.TheConstants.{MAX_LINE}
use Rattle.bs_json.specs.declared.line.Line.{Line}
use Rattle.bs_json.specs.declared.line.Line.TheVariants as line
use Rattle.bs_json.specs.declared.line.Stray.TheVariants as stray
use Rattle.bs_json.specs.Commands.{command_of}
use Rattle.bs_json.specs.PlanLine.{row_from}
use Rattle.bs_json.specs.Values.{value_of, text_at}

-- JSON white space: space, tab, line feed, carriage return
abbrev pub is_space : ℕ → Bool
is_space byte = (byte == 32) || (byte == 9) || (byte == 10) || (byte == 13)

abbrev pub line_for : List ℕ → Option Command → Line
line_for game None = line.Bad game
line_for game (Some command) = line.Command game command

-- a line whose object neither admits nor dismisses a game
abbrev pub command_line : Version → Data → Option (List ℕ) → Line
command_line version d None = line.Stray stray.Game
command_line version d (Some game) = line_for game (command_of version d)

abbrev pub is_word : List ℕ → Option (List ℕ) → Bool
is_word word None = false
is_word word (Some text) = is_same_text text word

-- its member `do` is that word
abbrev pub does : List ℕ → Data → Bool
does word d = is_word word (text_at (codes "do") d)

abbrev pub admit_line : Option GameRow → Line
admit_line None = line.BadAdmit
admit_line (Some row) = line.Admit row

-- games are admitted and dismissed only in versions that have stays
abbrev pub line_in : Version → Data → Line
line_in version d =
    if does (codes "admit") d && has_stays version then admit_line (row_from d)
    else (if does (codes "leave") d && has_stays version then line.Leave (text_at (codes "game") d)
    else command_line version d (text_at (codes "game") d))

abbrev pub line_from : Version → Option Data → Line
line_from version None = line.Stray stray.Json
line_from version (Some d) =
    if is_some (as_object d) then line_in version d else line.Stray stray.Json

-- a line of a file whose plan has that version
unfoldable pub line_of : Version → List ℕ → Line
line_of version bytes =
    if nat_lt MAX_LINE (length bytes) then line.Stray stray.Long
    else (if list_all is_space bytes then line.Blank
    else line_from version (value_of bytes))
