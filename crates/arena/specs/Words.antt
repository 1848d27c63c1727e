-- The request that the words of a command line make. clap's own definitions say how a command reads
-- words; here are the commands, and what is read from their matches.
use Rattle.std.specs.Prelude.{ℕ, ◌∷◌, [], List, Bool, true, Option, Some, None, codes, option_and_then, unwrap_or, length, nat_le, nat_lt, if◌then◌else◌, pos, ◌^◌, ◌&&◌}
use Rattle.std.specs.List.{list_all}
use Rattle.std.specs.Char.{digit_value}
use Rattle.std.specs.Str.{bytes_eq}
use Rattle.std.specs.Str.Parse.{digits_value, without_leading_plus}
use Rattle.clap.specs.Words.{App, Row, Rule, first_of, Kinds, fault_of, new_app, new_rule, one_of, subcommand_of, with_rule, with_subcommand}
use Rattle.clap.specs.Walk.{Text}
use Rattle.bs_program.specs.Asked.{Asked, serve, alone, live}
use Rattle.clap.specs.declared.builder.action.ArgAction.TheVariants.{Set}
use Rattle.clap.specs.declared.builder.value_parser.ValueParser.TheVariants.{Signed}

-- The commands.
abbrev pub file_rule : Rule
file_rule = record (new_rule (codes "FILE")) { required = true; action = Some Set }

-- an option that takes one value
abbrev pub option_rule : Text → Rule
option_rule name = record (new_rule name) { long = Some name; value_names = 1; action = Some Set }

-- an option for a whole number from `least` to `most`, whose default is this text
abbrev pub number_rule : Text → ℕ → ℕ → Text → Rule
number_rule name least most otherwise =
    record (option_rule name) { parser = Some (Signed (pos least) (pos most)); defaults = otherwise ∷ [] }

abbrev pub blocks_rule : Rule
blocks_rule = number_rule (codes "blocks") 1 4096 (codes "64")

abbrev pub workers_rule : Rule
workers_rule = number_rule (codes "workers") 1 4 (codes "2")

abbrev pub stay_rule : Rule
stay_rule = number_rule (codes "stay") 1 4294967295 (codes "1")

abbrev pub game_rule : Rule
game_rule = record (option_rule (codes "game")) { required = true }

abbrev pub serve_app : App
serve_app = with_rule (with_rule (with_rule (new_app (codes "serve")) file_rule) blocks_rule) workers_rule

abbrev pub alone_app : App
alone_app = with_rule (with_rule (with_rule (with_rule (new_app (codes "alone")) file_rule) game_rule) stay_rule) blocks_rule

abbrev pub live_app : App
live_app = with_rule (new_app (codes "live")) blocks_rule

abbrev pub top_app : App
top_app = record { top = record (new_app (codes "arena")).top { has_version = true; subcommand_required = true }; subs = [] }

unfoldable pub arena_app : App
arena_app = with_subcommand (with_subcommand (with_subcommand top_app serve_app.top) alone_app.top) live_app.top

-- The requests.
abbrev pub is_number : ℕ → Text → Bool
is_number bits text = nat_lt 0 (length text) && (list_all (λ digit. nat_lt (digit_value digit) 10) text && nat_lt (digits_value 10 text) (2 ^ bits))

-- the value of a text of decimal digits, if it has at most `bits` bits
abbrev pub number_of : ℕ → Text → Option ℕ
number_of bits text = if is_number bits (without_leading_plus text) then Some (digits_value 10 (without_leading_plus text)) else None

-- the number given for an option; `otherwise` if there is none
abbrev pub number_at : ℕ → Text → ℕ → List Row → ℕ
number_at bits name otherwise rows = unwrap_or (option_and_then (number_of bits) (one_of name rows)) otherwise

abbrev pub text_at : Text → Text → List Row → Text
text_at name otherwise rows = unwrap_or (first_of name rows) otherwise

abbrev pub blocks_at : List Row → ℕ
blocks_at = number_at 16 (codes "blocks") 64

abbrev pub workers_at : List Row → ℕ
workers_at = number_at 16 (codes "workers") 2

abbrev pub stay_at : List Row → ℕ
stay_at = number_at 32 (codes "stay") 1

abbrev pub serve_asked : List Row → Asked
serve_asked rows = serve (text_at (codes "FILE") (codes "-") rows) (blocks_at rows) (workers_at rows)

abbrev pub alone_asked : List Row → Asked
alone_asked rows =
    alone (text_at (codes "FILE") (codes "-") rows) (text_at (codes "game") [] rows) (stay_at rows) (blocks_at rows)

abbrev pub asked_by : Text → List Row → Asked
asked_by command rows =
    if bytes_eq command (codes "alone") then alone_asked rows
    else if bytes_eq command (codes "live") then live (blocks_at rows)
    else serve_asked rows

-- with no command, the standard input is served
abbrev pub asked_in : Option (Text × List Row) → Asked
asked_in None = serve_asked []
asked_in (Some (command, rows)) = asked_by command rows

-- the command that the words name, and the values of its arguments
unfoldable pub command_in : List Text → Option (Text × List Row)
command_in words = subcommand_of arena_app words

-- the request of the words, the program's name first
unfoldable pub asked_of : List Text → Asked
asked_of words = if nat_le (length words) 1 then serve_asked [] else asked_in (command_in words)

-- the kinds of error that clap may give for the words; none if it accepts them
unfoldable pub mistakes_in : List Text → Kinds
mistakes_in words = fault_of arena_app words
