-- The lines of a transcript: compact JSON, each ended by a line feed.
use Rattle.std.specs.Prelude.{ℕ, codes, List, [], ◌∷◌, ◌++◌, Option, Some, None, true}
use Rattle.serde_json.specs.Data.{Data, null, boolean, string}
use Rattle.serde_json.specs.Written.{compact_text}
use Rattle.bs_board.specs.declared.boards.board.Board.{Board}
use Rattle.bs_board.specs.declared.commands.command.Word.{Word}
use Rattle.bs_board.specs.declared.commands.command.Word.TheVariants as word
use Rattle.bs_board.specs.declared.commands.reply.Reply.{Reply}
use Rattle.bs_board.specs.declared.commands.reply.Reply.TheVariants.{Shown, Plain, Refused}
use Rattle.bs_board.specs.declared.commands.reply.Refusal.{Refusal}
use Rattle.bs_board.specs.declared.commands.reply.Refusal.TheVariants.{Unknown, NoGame, Running, Over, Limit, NoRecord, Quota}
use Rattle.bs_json.specs.declared.line.Stray.{Stray}
use Rattle.bs_json.specs.declared.line.Stray.TheVariants as stray
use Rattle.bs_json.specs.Boards.{object_of, whole_data, board_data}

abbrev pub word_text : Word → List ℕ
word_text word.New = codes "new"
word_text word.Move = codes "move"
word_text word.Show = codes "show"
word_text word.Turn = codes "turn"
word_text word.Free = codes "free"
word_text word.End = codes "end"

abbrev pub refusal_code : Refusal → List ℕ
refusal_code Unknown = codes "G1"
refusal_code NoGame = codes "G2"
refusal_code Running = codes "G3"
refusal_code Over = codes "G4"
refusal_code Limit = codes "G5"
refusal_code NoRecord = codes "G6"
refusal_code Quota = codes "G7"

abbrev pub refusal_text : Refusal → List ℕ
refusal_text Unknown = codes "command"
refusal_text NoGame = codes "none"
refusal_text Running = codes "running"
refusal_text Over = codes "over"
refusal_text Limit = codes "limit"
refusal_text NoRecord = codes "record"
refusal_text Quota = codes "quota"

abbrev pub stray_code : Stray → List ℕ
stray_code stray.Json = codes "L1"
stray_code stray.Game = codes "L2"
stray_code stray.Long = codes "L3"
stray_code stray.BadRow = codes "A1"
stray_code stray.NameOpen = codes "A2"
stray_code stray.Full = codes "A3"
stray_code stray.Short = codes "A4"
stray_code stray.NoStay = codes "A5"

abbrev pub stray_text : Stray → List ℕ
stray_text stray.Json = codes "json"
stray_text stray.Game = codes "game"
stray_text stray.Long = codes "long"
stray_text stray.BadRow = codes "admit"
stray_text stray.NameOpen = codes "open"
stray_text stray.Full = codes "games"
stray_text stray.Short = codes "pool"
stray_text stray.NoStay = codes "none"

unfoldable pub reply_data : List ℕ → ℕ → Reply → Data
reply_data game seq (Shown word board charge) = object_of (
    (codes "board", board_data board)
    ∷ (codes "charge", whole_data charge)
    ∷ (codes "do", string (word_text word))
    ∷ (codes "game", string game)
    ∷ (codes "seq", whole_data seq)
    ∷ [])
reply_data game seq (Plain word charge) = object_of (
    (codes "charge", whole_data charge)
    ∷ (codes "do", string (word_text word))
    ∷ (codes "game", string game)
    ∷ (codes "seq", whole_data seq)
    ∷ [])
reply_data game seq (Refused refusal) = object_of (
    (codes "game", string game)
    ∷ (codes "no", string (refusal_code refusal))
    ∷ (codes "seq", whole_data seq)
    ∷ (codes "why", string (refusal_text refusal))
    ∷ [])

-- null if no game runs
abbrev pub last_data : Option Board → Data
last_data None = null
last_data (Some board) = board_data board

unfoldable pub final_data : List ℕ → Option Board → ℕ → Data
final_data game board charge = object_of (
    (codes "board", last_data board)
    ∷ (codes "charge", whole_data charge)
    ∷ (codes "final", boolean true)
    ∷ (codes "game", string game)
    ∷ [])

unfoldable pub stray_data : ℕ → Stray → Data
stray_data line stray = object_of (
    (codes "line", whole_data line)
    ∷ (codes "no", string (stray_code stray))
    ∷ (codes "why", string (stray_text stray))
    ∷ [])

abbrev pub text_line : Data → List ℕ
text_line d = compact_text d ++ 10 ∷ []

abbrev pub reply_line_of : List ℕ → ℕ → Reply → List ℕ
reply_line_of game seq reply = text_line (reply_data game seq reply)

abbrev pub final_line_of : List ℕ → Option Board → ℕ → List ℕ
final_line_of game board charge = text_line (final_data game board charge)

abbrev pub stray_line_of : ℕ → Stray → List ℕ
stray_line_of line stray = text_line (stray_data line stray)
