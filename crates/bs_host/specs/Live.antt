-- What a live host writes: the answer to each line, in the order of the lines; at the end of the
-- input the final lines of the open stays. The answer to a line depends on the lines up to it
-- alone, and not on when they arrived.
use Rattle.std.specs.Prelude.{◌≡◌, ℕ, ◌+◌, ◌<◌, nat_eq, Bool, true, false, if◌then◌else◌, List, [], ◌∷◌, ◌++◌, length}
use Rattle.std.specs.List.{enumerate_from, filter, filter_map, flat_map}
use Rattle.bs_board.specs.declared.commands.command.Command.{Command}
use Rattle.bs_board.specs.declared.plans.version.Version.{Version}
use Rattle.bs_board.specs.plans.Plan.{GameRow}
use Rattle.bs_json.specs.Replies.{reply_line_of, stray_line_of}
use Rattle.bs_game.specs.Alone.{alone}
use Rattle.bs_game.specs.Answer.{answer_to}
use Rattle.bs_registry.specs.Stays.{Stay}
use Rattle.bs_transcript.specs.Lines.{last_line_of, stray_lines_of}
use Rattle.bs_workers.specs.declared.act.Act.{Act}
use Rattle.bs_workers.specs.declared.act.Act.TheVariants as act
use Rattle.bs_workers.specs.Acts.{command_in, opened, rows_admitted}
use Rattle.bs_host.specs.declared.route.Route.{Route}
use Rattle.bs_host.specs.declared.route.Route.TheVariants as route
use Rattle.bs_host.specs.Cut.{row_at}
use Rattle.bs_host.specs.File.{later_pieces, pieces_of, rows_of, version_of}
use Rattle.bs_registry.specs.OpenStays.{open_of}
use Rattle.bs_host.specs.Routing.{acts_in, capacity_of, commands_of, registry_behind, route_at, routes_from, stays_of, strays_of}
use Rattle.bs_host.specs.Transcript.{section_of, transcript_of}

-- One line.
-- the reply to one more command of a stay, numbered within the stay
unfoldable pub next_line : GameRow → List Command → Command → List ℕ
next_line row commands command =
    reply_line_of row.game (length commands + 1) (answer_to row.quota (alone row commands).game command).reply

-- the final line of a stay after these commands
unfoldable pub closing_line : GameRow → List Command → List ℕ
closing_line row commands = last_line_of row.game (alone row commands).game

-- the commands that these acts queue for that stay
abbrev pub commands_given : ℕ → List Act → List Command
commands_given stay = filter_map (command_in stay)

-- the rows of all stays: those of the plan, and those that these acts admit
abbrev pub rows_behind : List GameRow → List Act → List GameRow
rows_behind plan acts = plan ++ rows_admitted acts

-- What is written for an act that follows these: the reply to a command; nothing for an admission;
-- the final line of a stay that leaves.
abbrev pub act_line : List GameRow → List Act → Act → List ℕ
act_line plan acts (act.Hand stay command) = next_line (row_at (rows_behind plan acts) stay) (commands_given stay acts) command
act_line plan acts (act.Admit row) = []
act_line plan acts (act.Leave stay) = closing_line (row_at (rows_behind plan acts) stay) (commands_given stay acts)

-- what is written for a line of that number with that route
abbrev pub route_line : List GameRow → List Act → ℕ → Route → List ℕ
route_line plan acts number (route.Act a) = act_line plan acts a
route_line plan acts number (route.Stray kind) = stray_line_of number kind
route_line plan acts number route.Nowhere = []

-- Lines after the plan, one after the other.
abbrev pub acts_behind : ℕ → Version → List GameRow → List (List ℕ) → List Act
acts_behind blocks version plan lines = acts_in (routes_from (capacity_of blocks) version (opened plan) 2 lines)

abbrev pub stays_left : ℕ → Version → List GameRow → List (List ℕ) → List Stay
stays_left blocks version plan lines = registry_behind (capacity_of blocks) version (opened plan) lines

-- the route of a line that follows these
abbrev pub route_behind : ℕ → Version → List GameRow → List (List ℕ) → List ℕ → Route
route_behind blocks version plan before text = route_at (capacity_of blocks) version (stays_left blocks version plan before) text

-- the answer to a line that follows these
unfoldable pub answer_after : ℕ → Version → List GameRow → List (List ℕ) → List ℕ → List ℕ
answer_after blocks version plan before text =
    route_line plan (acts_behind blocks version plan before) (2 + length before) (route_behind blocks version plan before text)

-- the answers to `lines`, which follow the lines `before`
abbrev pub answers_from : ℕ → Version → List GameRow → List (List ℕ) → List (List ℕ) → List ℕ
answers_from blocks version plan before [] = []
answers_from blocks version plan before (text ∷ lines) =
    answer_after blocks version plan before text ++ answers_from blocks version plan (before ++ text ∷ []) lines

-- the final lines of these stays, each with its number
abbrev pub closing_of : List Act → List (ℕ × GameRow) → List ℕ
closing_of acts = flat_map (λ stay. closing_line stay.1 (commands_given stay.0 acts))

-- the final lines of the stays that these lines leave open, in the order of their rows
unfoldable pub closing_behind : ℕ → Version → List GameRow → List (List ℕ) → List ℕ
closing_behind blocks version plan lines = closing_of (acts_behind blocks version plan lines) (open_of (stays_left blocks version plan lines))

-- what is written for all lines after the plan
abbrev pub live_lines_of : ℕ → Version → List GameRow → List (List ℕ) → List ℕ
live_lines_of blocks version plan lines = answers_from blocks version plan [] lines ++ closing_behind blocks version plan lines

-- What is written for a whole file.
unfoldable pub live_of : ℕ → List ℕ → List ℕ
live_of blocks file = live_lines_of blocks (version_of file) (rows_of file) (later_pieces (pieces_of file))

-- The law: the lines of one stay.
-- which stay an answer belongs to, if any
abbrev pub is_of_act : ℕ → Act → Bool
is_of_act stay (act.Hand to command) = nat_eq to stay
is_of_act stay (act.Admit row) = false
is_of_act stay (act.Leave to) = nat_eq to stay

abbrev pub is_of_stay : ℕ → Route → Bool
is_of_stay stay (route.Act a) = is_of_act stay a
is_of_stay stay (route.Stray kind) = false
is_of_stay stay route.Nowhere = false

abbrev pub is_stray : Route → Bool
is_stray (route.Act a) = false
is_stray (route.Stray kind) = true
is_stray route.Nowhere = false

-- the answers to those of the lines whose route passes the test, in order
abbrev pub some_answers : (Route → Bool) → ℕ → Version → List GameRow → List (List ℕ) → List (List ℕ) → List ℕ
some_answers which blocks version plan before [] = []
some_answers which blocks version plan before (text ∷ lines) =
    (if which (route_behind blocks version plan before text) then answer_after blocks version plan before text else [])
    ++ some_answers which blocks version plan (before ++ text ∷ []) lines

-- the final line of one stay at the end, if it is open
abbrev pub own_closing : ℕ → ℕ → Version → List GameRow → List (List ℕ) → List ℕ
own_closing stay blocks version plan lines =
    closing_of (acts_behind blocks version plan lines) (filter (λ other. nat_eq other.0 stay) (open_of (stays_left blocks version plan lines)))

abbrev pub own_live_of : ℕ → List ℕ → ℕ → List ℕ
own_live_of blocks file stay =
    some_answers (is_of_stay stay) blocks (version_of file) (rows_of file) [] (later_pieces (pieces_of file))
    ++ own_closing stay blocks (version_of file) (rows_of file) (later_pieces (pieces_of file))

abbrev pub stray_live_of : ℕ → List ℕ → List ℕ
stray_live_of blocks file = some_answers is_stray blocks (version_of file) (rows_of file) [] (later_pieces (pieces_of file))

-- What a live host writes for a stay is the stay's section of the transcript, byte for byte; what
-- it writes for no stay is the stray lines.
pub record IsSectioned (blocks : ℕ) (file : List ℕ) : Type 0 where
  pub sections : (stay : ℕ) → stay < length (stays_of blocks file)
      → own_live_of blocks file stay ≡ section_of (row_at (stays_of blocks file) stay) (commands_of blocks file stay)
  pub strays : stray_live_of blocks file ≡ stray_lines_of (strays_of blocks file)

-- The transcript is what a live host writes for each stay, in the order of the rows, then what it
-- writes for none.
abbrev pub sorted_live_of : ℕ → List ℕ → List ℕ
sorted_live_of blocks file =
    flat_map (λ stay. own_live_of blocks file stay.0) (enumerate_from 0 (stays_of blocks file)) ++ stray_live_of blocks file

abbrev pub TranscriptLaw : Type 0
TranscriptLaw = (blocks : ℕ) (file : List ℕ) → transcript_of blocks file ≡ sorted_live_of blocks file

abbrev pub LiveLaw : Type 0
LiveLaw = (blocks : ℕ) (file : List ℕ) → IsSectioned blocks file

-- What is written for some lines is not changed by later lines.
abbrev pub PrefixLaw : Type 0
PrefixLaw =
    (blocks : ℕ) (version : Version) (plan : List GameRow) (before done more : List (List ℕ))
    → answers_from blocks version plan before (done ++ more)
    ≡ answers_from blocks version plan before done ++ answers_from blocks version plan (before ++ done) more
